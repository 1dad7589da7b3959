use Rattle.std.proofs.Common.{◌≡◌, [], inl, inr, length, refl, sym, ◌∙◌, ap, subst}
use Rattle.sqlite.specs.Held.{state}
use Rattle.console_answer.specs.declared.fault.Fault.TheVariants.{NoMemory, NotInForce}
use Rattle.kept_ledger.specs.Ledger.{IsLedger}
use Rattle.kept_lines.specs.Kept.{IsOnDisk}
use Rattle.kept_host.specs.declared.range.taken.Taken.TheVariants.{NoneInForce, Refused}
use Rattle.kept_lines.specs.Chosen.{chosen}
use Rattle.kept_host.specs.Taking.{AllTaken, IsWhy}
use Rattle.kept_host.proofs.RangeKept.{left_before, left_behind, lost_left, lost_stops, any_ok, comes_so, same_so, all_so, stops_so, no_items, some_items}
use Rattle.kept_host.proofs.range.taking.take_range.Goals as goal

-- ---- there is no memory for the serials
pub returns-in-Err-clause-taken : goal.returns-in-Err-clause-taken
returns-in-Err-clause-taken g c =
    comes_so (g.W.Output.contents c.args.out.now) (g.W.Output.contents c.refuse.new.out) NoMemory (Refused NoMemory) c.args.range c.args.book.now.plain c.args.book.now.plain c.refuse.result c.refuse.ensures.told
    (λ wrote. (inl refl, wrote))

pub returns-in-Err-clause-kept : goal.returns-in-Err-clause-kept
returns-in-Err-clause-kept g c clean t on = any_ok c.refuse.result on

pub returns-in-Err-clause-same : goal.returns-in-Err-clause-same
returns-in-Err-clause-same g c clean t on =
    same_so (g.W.Output.contents c.args.out.now) (g.W.Output.contents c.refuse.new.out) NoMemory (Refused NoMemory) (c.args.book.now.plain ≡ c.args.book.now.plain) c.refuse.result c.refuse.ensures.told refl

pub returns-in-Err-clause-rows : goal.returns-in-Err-clause-rows
returns-in-Err-clause-rows g c clean t events ledger =
    same_so (g.W.Output.contents c.args.out.now) (g.W.Output.contents c.refuse.new.out) NoMemory (Refused NoMemory) (IsLedger t events (state g.D.Store c.args.conn.now)) c.refuse.result c.refuse.ensures.told ledger

pub returns-in-Err-clause-left : goal.returns-in-Err-clause-left
returns-in-Err-clause-left g c clean t on = left_before c.args.range c.args.book.now.plain t (state g.D.Store c.args.conn.now) on.leaves

pub returns-in-Err-clause-stops : goal.returns-in-Err-clause-stops
returns-in-Err-clause-stops g c =
    stops_so (g.W.Output.contents c.args.out.now) (g.W.Output.contents c.refuse.new.out) NoMemory (Refused NoMemory) c.args.range c.args.book.now.plain (state g.D.Store c.args.conn.now) (state g.D.Store c.args.conn.now)
    c.refuse.result c.refuse.ensures.untold (λ front. record { fault = NoMemory; why = inr (inl refl); front = front; disk = λ clean t on. on })

-- ---- no change in force has one of them
pub returns-then-is_empty-clause-taken : goal.returns-then-is_empty-clause-taken
returns-then-is_empty-clause-taken g c =
    let none : chosen c.args.range c.args.book.now.plain ≡ [] = sym (c.as_slice-serials.ensures.value ∙ c.in-Ok.ensures) ∙ no_items c.as_slice-serials.result.now (sym c.is_empty.ensures ∙ c.if-is_empty.true) in
    comes_so (g.W.Output.contents c.args.out.now) (g.W.Output.contents c.refuse-then-is_empty.new.out) NotInForce NoneInForce c.args.range c.args.book.now.plain c.args.book.now.plain c.refuse-then-is_empty.result c.refuse-then-is_empty.ensures.told
    (λ wrote. (none, wrote))

pub returns-then-is_empty-clause-kept : goal.returns-then-is_empty-clause-kept
returns-then-is_empty-clause-kept g c clean t on = any_ok c.refuse-then-is_empty.result on

pub returns-then-is_empty-clause-same : goal.returns-then-is_empty-clause-same
returns-then-is_empty-clause-same g c clean t on =
    same_so (g.W.Output.contents c.args.out.now) (g.W.Output.contents c.refuse-then-is_empty.new.out) NotInForce NoneInForce (c.args.book.now.plain ≡ c.args.book.now.plain) c.refuse-then-is_empty.result c.refuse-then-is_empty.ensures.told refl

pub returns-then-is_empty-clause-rows : goal.returns-then-is_empty-clause-rows
returns-then-is_empty-clause-rows g c clean t events ledger =
    same_so (g.W.Output.contents c.args.out.now) (g.W.Output.contents c.refuse-then-is_empty.new.out) NotInForce NoneInForce (IsLedger t events (state g.D.Store c.args.conn.now)) c.refuse-then-is_empty.result c.refuse-then-is_empty.ensures.told ledger

pub returns-then-is_empty-clause-left : goal.returns-then-is_empty-clause-left
returns-then-is_empty-clause-left g c clean t on = left_before c.args.range c.args.book.now.plain t (state g.D.Store c.args.conn.now) on.leaves

pub returns-then-is_empty-clause-stops : goal.returns-then-is_empty-clause-stops
returns-then-is_empty-clause-stops g c =
    let none : chosen c.args.range c.args.book.now.plain ≡ [] = sym (c.as_slice-serials.ensures.value ∙ c.in-Ok.ensures) ∙ no_items c.as_slice-serials.result.now (sym c.is_empty.ensures ∙ c.if-is_empty.true) in
    stops_so (g.W.Output.contents c.args.out.now) (g.W.Output.contents c.refuse-then-is_empty.new.out) NotInForce NoneInForce c.args.range c.args.book.now.plain (state g.D.Store c.args.conn.now) (state g.D.Store c.args.conn.now)
    c.refuse-then-is_empty.result c.refuse-then-is_empty.ensures.untold (λ front. record { fault = NotInForce; why = inl (none, refl); front = front; disk = λ clean t on. on })

-- ---- all are taken out
pub returns-in-Ok-keep_held-clause-taken : goal.returns-in-Ok-keep_held-clause-taken
returns-in-Ok-keep_held-clause-taken g c =
    let are : c.as_slice-serials.result.now ≡ chosen c.args.range c.args.book.now.plain = c.as_slice-serials.ensures.value ∙ c.in-Ok.ensures in (
      some_items c.as_slice-serials.result.now (sym c.is_empty.ensures ∙ c.if-is_empty.false),
      ap length are,
      (
        c.in-Ok-take_each.held.text.items,
        subst (λ xs. AllTaken xs c.args.book.now.plain c.take_each.new.book.plain c.in-Ok-take_each.held.text.items) are c.in-Ok-take_each.ensures.taken,
        c.in-Ok-keep_held.ensures.text,
      ),
    )

pub returns-in-Ok-keep_held-clause-kept : goal.returns-in-Ok-keep_held-clause-kept
returns-in-Ok-keep_held-clause-kept g c clean t on = c.in-Ok-keep_held.ensures.kept clean t c.args.book.now.plain c.take_each.new.book.plain on c.in-Ok-take_each.ensures.leads

pub returns-in-Ok-keep_held-clause-left : goal.returns-in-Ok-keep_held-clause-left
returns-in-Ok-keep_held-clause-left g c clean t on =
    let are : c.as_slice-serials.result.now ≡ chosen c.args.range c.args.book.now.plain = c.as_slice-serials.ensures.value ∙ c.in-Ok.ensures in
    left_behind c.args.range c.args.book.now.plain c.take_each.new.book.plain c.in-Ok-take_each.held.text.items
    (subst (λ xs. AllTaken xs c.args.book.now.plain c.take_each.new.book.plain c.in-Ok-take_each.held.text.items) are c.in-Ok-take_each.ensures.taken) t (state g.D.Store c.keep_held.new.conn)
    (c.in-Ok-keep_held.ensures.kept clean t c.args.book.now.plain c.take_each.new.book.plain on c.in-Ok-take_each.ensures.leads).leaves

pub returns-in-Ok-take_each-clause-left : goal.returns-in-Ok-take_each-clause-left
returns-in-Ok-take_each-clause-left g c =
    let are : c.as_slice-serials.result.now ≡ chosen c.args.range c.args.book.now.plain = c.as_slice-serials.ensures.value ∙ c.in-Ok.ensures in
    lost_left c.args.range c.args.book.now.plain c.take_each.new.book.plain c.in-Ok-take_each.held.text.items
    (subst (λ xs. AllTaken xs c.args.book.now.plain c.take_each.new.book.plain c.in-Ok-take_each.held.text.items) are c.in-Ok-take_each.ensures.taken)
    (state g.D.Store c.args.conn.now) (state g.D.Store c.keep_held.new.conn) (g.W.Output.contents c.args.out.now) (g.W.Output.contents c.keep_held.new.out) c.in-Ok-take_each.held.events.items c.in-Ok-take_each.ensures.leads
    c.in-Err-keep_held.fault c.in-Err-keep_held.ensures.lost

pub returns-in-Ok-take_each-clause-stops : goal.returns-in-Ok-take_each-clause-stops
returns-in-Ok-take_each-clause-stops g c =
    let are : c.as_slice-serials.result.now ≡ chosen c.args.range c.args.book.now.plain = c.as_slice-serials.ensures.value ∙ c.in-Ok.ensures in
    lost_stops c.args.range c.args.book.now.plain c.take_each.new.book.plain c.in-Ok-take_each.held.text.items
    (subst (λ xs. AllTaken xs c.args.book.now.plain c.take_each.new.book.plain c.in-Ok-take_each.held.text.items) are c.in-Ok-take_each.ensures.taken)
    (state g.D.Store c.args.conn.now) (state g.D.Store c.keep_held.new.conn) (g.W.Output.contents c.args.out.now) (g.W.Output.contents c.keep_held.new.out) c.in-Ok-take_each.held.events.items c.in-Ok-take_each.ensures.leads
    c.in-Err-keep_held.fault c.in-Err-keep_held.ensures.lost

-- ---- one is refused
pub returns-in-Ok-take_back-clause-taken : goal.returns-in-Ok-take_back-clause-taken
returns-in-Ok-take_back-clause-taken g c =
    let are : c.as_slice-serials.result.now ≡ chosen c.args.range c.args.book.now.plain = c.as_slice-serials.ensures.value ∙ c.in-Ok.ensures in
    let fault = c.in-Err-take_each.refusal.fault in
    comes_so (g.W.Output.contents c.args.out.now) (g.W.Output.contents c.refuse-in-Ok-take_back.new.out) fault (Refused fault) c.args.range c.args.book.now.plain c.take_back.new.book.plain c.refuse-in-Ok-take_back.result c.refuse-in-Ok-take_back.ensures.told
    (λ wrote. (subst (λ xs. IsWhy xs c.args.book.now.plain fault) are c.in-Err-take_each.ensures.refused, wrote))

pub returns-in-Ok-take_back-clause-kept : goal.returns-in-Ok-take_back-clause-kept
returns-in-Ok-take_back-clause-kept g c clean t on =
    let back = c.in-Ok-take_back.ensures.back clean t c.args.book.now.plain on c.in-Err-take_each.ensures.same in
    any_ok c.refuse-in-Ok-take_back.result (subst (IsOnDisk t (state g.D.Store c.take_back.new.conn)) (sym back.0) back.1)

pub returns-in-Ok-take_back-clause-same : goal.returns-in-Ok-take_back-clause-same
returns-in-Ok-take_back-clause-same g c clean t on =
    let fault = c.in-Err-take_each.refusal.fault in
    same_so (g.W.Output.contents c.args.out.now) (g.W.Output.contents c.refuse-in-Ok-take_back.new.out) fault (Refused fault) (c.take_back.new.book.plain ≡ c.args.book.now.plain) c.refuse-in-Ok-take_back.result c.refuse-in-Ok-take_back.ensures.told
    (c.in-Ok-take_back.ensures.back clean t c.args.book.now.plain on c.in-Err-take_each.ensures.same).0

pub returns-in-Ok-take_back-clause-rows : goal.returns-in-Ok-take_back-clause-rows
returns-in-Ok-take_back-clause-rows g c clean t events ledger =
    same_so (g.W.Output.contents c.args.out.now) (g.W.Output.contents c.refuse-in-Ok-take_back.new.out) c.in-Err-take_each.refusal.fault (Refused c.in-Err-take_each.refusal.fault) (IsLedger t events (state g.D.Store c.take_back.new.conn)) c.refuse-in-Ok-take_back.result c.refuse-in-Ok-take_back.ensures.told (c.in-Ok-take_back.ensures.rows clean t events ledger)

pub returns-in-Ok-take_back-clause-left : goal.returns-in-Ok-take_back-clause-left
returns-in-Ok-take_back-clause-left g c clean t on =
    left_before c.args.range c.args.book.now.plain t (state g.D.Store c.take_back.new.conn) (c.take_back.ensures.left clean t c.args.book.now.plain on)

pub returns-in-Ok-take_back-clause-stops : goal.returns-in-Ok-take_back-clause-stops
returns-in-Ok-take_back-clause-stops g c =
    let are : c.as_slice-serials.result.now ≡ chosen c.args.range c.args.book.now.plain = c.as_slice-serials.ensures.value ∙ c.in-Ok.ensures in
    let fault = c.in-Err-take_each.refusal.fault in
    stops_so (g.W.Output.contents c.args.out.now) (g.W.Output.contents c.refuse-in-Ok-take_back.new.out) fault (Refused fault) c.args.range c.args.book.now.plain (state g.D.Store c.args.conn.now) (state g.D.Store c.take_back.new.conn)
    c.refuse-in-Ok-take_back.result c.refuse-in-Ok-take_back.ensures.untold
    (λ front. record {
      fault = fault;
      why = inr (subst (λ xs. IsWhy xs c.args.book.now.plain fault) are c.in-Err-take_each.ensures.refused);
      front = front;
      disk = λ clean t on. (c.in-Ok-take_back.ensures.back clean t c.args.book.now.plain on c.in-Err-take_each.ensures.same).1;
    })

pub returns-clause-left : goal.returns-clause-left
returns-clause-left g c clean t on =
    left_before c.args.range c.args.book.now.plain t (state g.D.Store c.take_back.new.conn) (c.take_back.ensures.left clean t c.args.book.now.plain on)

pub returns-clause-stops : goal.returns-clause-stops
returns-clause-stops g c = (refl, λ clean t on. c.take_back.ensures.left clean t c.args.book.now.plain on)

-- ---- when
pub returns-in-Err-clause-times : goal.returns-in-Err-clause-times
returns-in-Err-clause-times g c = all_so (g.W.Output.contents c.args.out.now) (g.W.Output.contents c.refuse.new.out) NoMemory (Refused NoMemory) _ c.refuse.result c.refuse.ensures.told tt

pub returns-then-is_empty-clause-times : goal.returns-then-is_empty-clause-times
returns-then-is_empty-clause-times g c =
    all_so (g.W.Output.contents c.args.out.now) (g.W.Output.contents c.refuse-then-is_empty.new.out) NotInForce NoneInForce _ c.refuse-then-is_empty.result c.refuse-then-is_empty.ensures.told tt

pub returns-in-Ok-keep_held-clause-times : goal.returns-in-Ok-keep_held-clause-times
returns-in-Ok-keep_held-clause-times g c = c.in-Ok-keep_held.ensures.times

pub returns-in-Ok-take_back-clause-times : goal.returns-in-Ok-take_back-clause-times
returns-in-Ok-take_back-clause-times g c =
    let fault = c.in-Err-take_each.refusal.fault in
    all_so (g.W.Output.contents c.args.out.now) (g.W.Output.contents c.refuse-in-Ok-take_back.new.out) fault (Refused fault) _ c.refuse-in-Ok-take_back.result c.refuse-in-Ok-take_back.ensures.told tt
