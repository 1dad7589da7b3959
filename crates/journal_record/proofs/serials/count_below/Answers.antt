use Rattle.std.proofs.Common.{◌≡◌, ℕ, suc, ◌+◌, ◌-◌, ◌/◌, ◌<◌, ◌≤◌, length, take, subst, arith}
use Rattle.journal_model.specs.Replay.{Entry}
use Rattle.journal_model.specs.Well.{Each}
use Rattle.journal_record.specs.Records.{entries}
use Rattle.journal_record.specs.Recorded.{Recorded}
use Rattle.journal_record.proofs.SerialLemmas.{smaller, not_smaller}
use Rattle.journal_record.proofs.serials.count_below.Goals as goal

pub search-preserved-then-serial : goal.search-preserved-then-serial
search-preserved-then-serial c =
    let middle : ℕ = c.search.low + (c.search.high - c.search.low) / 2 in
    let one : Recorded = c.index.result.now in
    let within : middle < length c.args.records.now.items = omega (arith, c.search-test.true, c.search.invariant.within, c.args.records.now.ok.0) in
    let less : one.entry.serial < c.args.serial = omega (arith, c.serial.ensures, c.if-serial.true) in
    let next : suc middle ≡ middle + 1 = omega arith in
    record {
      ordered = omega (arith, c.search-test.true);
      within = c.search.invariant.within;
      below = subst (λ n. Each (λ (e : Entry). e.serial < c.args.serial) (take n (entries c.args.records.now.items))) next
          (smaller c.args.serial c.args.records.now.items middle one within c.index.ensures less c.requires);
      others = c.search.invariant.others;
    }

pub search-preserved : goal.search-preserved
search-preserved c =
    let middle : ℕ = c.search.low + (c.search.high - c.search.low) / 2 in
    let one : Recorded = c.index.result.now in
    let within : middle < length c.args.records.now.items = omega (arith, c.search-test.true, c.search.invariant.within, c.args.records.now.ok.0) in
    let more : c.args.serial ≤ one.entry.serial = omega (arith, c.serial.ensures, c.if-serial.false) in
    record {
      ordered = omega (arith, c.search-test.true);
      within = omega (arith, c.search-test.true, c.search.invariant.within);
      below = c.search.invariant.below;
      others = not_smaller c.args.serial c.args.records.now.items middle one within c.index.ensures more c.requires;
    }
