-- The verdict on a program: the live maps are distinct, and what the decoder and the verifier answer is a verdict.
use Rattle.std.proofs.Common.{◌≡◌, ℕ, ◌<◌, Bool, true, false, T, cond, List, [], ◌∷◌, map as each, Err, refl, arith}
use Rattle.std.specs.Prelude.{All, AllPairs, ◌&&◌, filter}
use Rattle.std.specs.FinMap as map
use Rattle.std.specs.FinMap.Entries.{is_sorted, below_all}
use Rattle.std.specs.Ordering.{MatchOrdering, nat_cmp, is_lt}
use Rattle.std.specs.declared.cmp.Ordering.{Ordering}
use Rattle.std.specs.declared.cmp.Ordering.TheVariants.{Less, Equal, Greater}
use Rattle.std.proofs.lemmas.Cmp.{ranked}
use Rattle.std.proofs.lemmas.List.Kept.{AllPairs-cons}
use Rattle.std.proofs.lemmas.List.Elements.{All-nil, All-cons}
use Rattle.bt_insn.specs.declared.fault.DecodeFault.{DecodeFault}
use Rattle.bt_insn.specs.declared.fault.DecodeFault.TheVariants as decode
use Rattle.bt_insn.specs.declared.insn.Insn.{Insn}
use Rattle.bt_insn.specs.Grammar as decoder
use Rattle.bt_insn.specs.Grammar.{ReadsAs}
use Rattle.bt_mapkind.specs.declared.attr.MapAttr.{MapAttr}
use Rattle.bt_verify.specs.declared.fault.VerifyFault.{VerifyFault}
use Rattle.bt_verify.specs.declared.fault.VerifyFault.TheVariants as verify
use Rattle.bt_verify.specs.Maps.{AreDistinct}
use Rattle.bt_verify.specs.Verified as verifier
use Rattle.bt_verify.proofs.Members.{distinct}
use Rattle.host_state.specs.Ask.{ask, row_of}
use Rattle.host_state.specs.State.{HostMap}
use Rattle.journal_model.specs.Plain.{now}
use Rattle.journal_model.specs.Book.{PlainBook}
use Rattle.console_answer.specs.Answers.{decode_fault_of, verify_fault_of}
use Rattle.console_reference.specs.Programs.{pair_of, live_maps, Judges}

-- ---- the live maps

abbrev pairs : List (ℕ × HostMap) → List (ℕ × MapAttr)
pairs es = each pair_of (each row_of (filter (λ e. e.1.live) es))

both : (a b : Bool) → T (a && b) → T a × T b
both true true h = (tt, tt)
both true false h = absurd h
both false b h = absurd h

is_below : (a b : ℕ) → T (is_lt (nat_cmp a b)) → a < b
is_below a b h = by (nat_cmp a b) (ranked a b (nat_cmp a b) refl) h
  where
    by : (order : Ordering) → MatchOrdering order (a < b) (a ≡ b) (b < a) → T (is_lt order) → a < b
    by Less m t = m
    by Equal m t = absurd t
    by Greater m t = absurd t

-- each id is above this one
above : (k : ℕ) (es : List (ℕ × HostMap)) → T (below_all nat_cmp k es) → All (λ (m : ℕ × MapAttr). k < m.0) (pairs es)
above k [] h = All-nil (λ (m : ℕ × MapAttr). k < m.0)
above k (e ∷ es) h =
    let split = both (is_lt (nat_cmp k e.0)) (below_all nat_cmp k es) h in
    let rest = above k es split.1 in
    elim e.1.live as (λ (live : Bool). All (λ (m : ℕ × MapAttr). k < m.0) (each pair_of (each row_of (cond live (e ∷ filter (λ e. e.1.live) es) (filter (λ e. e.1.live) es))))) [
      | true ↦ All-cons (λ (m : ℕ × MapAttr). k < m.0) (e.0, e.1.attr) (pairs es) (is_below k e.0 split.0) rest
      | false ↦ rest
    ]

climbing : (es : List (ℕ × HostMap)) → T (is_sorted nat_cmp es) → AllPairs (λ (a b : ℕ × MapAttr). a.0 < b.0) (pairs es)
climbing [] h = λ i j d lt inside. absurd (omega arith)
climbing (e ∷ es) h =
    let split = both (below_all nat_cmp e.0 es) (is_sorted nat_cmp es) h in
    let rest = climbing es split.1 in
    elim e.1.live as (λ (live : Bool). AllPairs (λ (a b : ℕ × MapAttr). a.0 < b.0) (each pair_of (each row_of (cond live (e ∷ filter (λ e. e.1.live) es) (filter (λ e. e.1.live) es))))) [
      | true ↦ AllPairs-cons (λ (a b : ℕ × MapAttr). a.0 < b.0) (e.0, e.1.attr) (pairs es) (above e.0 es split.0) rest
      | false ↦ rest
    ]

pub live_distinct : (b : PlainBook) → AreDistinct (live_maps b)
unfolding ask
live_distinct b = distinct (pairs (map.entries (now b.line).maps)) (climbing (map.entries (now b.line).maps) (map.entries_sorted (now b.line).maps))

pub none_distinct : AreDistinct []
none_distinct = λ i j d lt inside. absurd (omega arith)

-- ---- verdicts
pub misread : (maps : List (ℕ × MapAttr)) (bytes : List ℕ) (why : DecodeFault) → decoder.IsFault bytes why → Judges maps bytes (Err (decode_fault_of why))
misread maps bytes decode.NoMemory h = tt
misread maps bytes decode.BadLength h = h
misread maps bytes decode.TooLong h = h
misread maps bytes (decode.BadOpcode slot) h = h
misread maps bytes (decode.BadField slot) h = h
misread maps bytes (decode.HalfWide slot) h = h

pub unsafely : (maps : List (ℕ × MapAttr)) (bytes : List ℕ) (insns : List Insn) (why : VerifyFault) → ReadsAs bytes insns → verifier.IsFault maps insns why → Judges maps bytes (Err (verify_fault_of why))
unsafely maps bytes insns verify.NoMemory reads h = tt
unsafely maps bytes insns verify.TooLong reads h = record { insns = insns; reads = reads; fault = h }
unsafely maps bytes insns (verify.WritesFrame slot) reads h = record { insns = insns; reads = reads; fault = h }
unsafely maps bytes insns (verify.NoHelper slot) reads h = record { insns = insns; reads = reads; fault = h }
unsafely maps bytes insns (verify.NoMap slot id) reads h = record { insns = insns; reads = reads; fault = h }
unsafely maps bytes insns (verify.JumpOut slot) reads h = record { insns = insns; reads = reads; fault = h }
unsafely maps bytes insns (verify.IntoWide slot) reads h = record { insns = insns; reads = reads; fault = h }
unsafely maps bytes insns (verify.BackEdge slot) reads h = record { insns = insns; reads = reads; fault = h }
unsafely maps bytes insns verify.FallsOff reads h = record { insns = insns; reads = reads; fault = h }
unsafely maps bytes insns (verify.Uninit slot r) reads h = record { insns = insns; reads = reads; fault = h }
