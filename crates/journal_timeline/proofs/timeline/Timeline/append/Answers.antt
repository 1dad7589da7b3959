use Rattle.std.proofs.Common.{◌≡◌, ℕ, subst, refl, sym, ◌∙◌, ap, length, take, drop, ◌∷◌, [], ◌++◌, arith, Ok, deque_capacity, map as each, ◌+◌}
use Rattle.host_state.specs.World.{Ready}
use Rattle.host_state.specs.Act.{act}
use Rattle.journal_model.specs.Replay.{Entry}
use Rattle.journal_model.specs.Plain.{now, appended}
use Rattle.journal_moments.specs.Recorded.{Recorded}
use Rattle.journal_moments.specs.Held.{Held, held}
use Rattle.journal_moments.specs.MomentView.{MomentView}
use Rattle.journal_moments.proofs.HeldLemmas.{Sound-same, pasts_of-same}
use Rattle.journal_moments.proofs.NewestLemmas.{now-pasts_of}
use Rattle.journal_moments.proofs.GrownLemmas.{with_ready, Sound-grow, pasts_of-ready, same_grows}
use Rattle.journal_moments.proofs.AppendLemmas.{AppendsTo, Sound-append, pasts_of-append}
use Rattle.journal_moments.proofs.StandingLemmas.{pushed_stands}
use Rattle.journal_timeline.proofs.RefusedLemmas.{reason_why}
use Rattle.host_state.specs.State.{State}
use Rattle.host_state.specs.Work.{CallsAtMost, walks, most_calls, after_change}
use Rattle.host_state.proofs.CallLemmas.{within_none}
use Rattle.journal_moments.specs.Calls.{Adds, calls_refused}
use Rattle.journal_moments.specs.Lowered.{lowered}
use Rattle.journal_moments.proofs.GoneLemmas.{lowered-at, lowered-other}
use Rattle.journal_timeline.proofs.timeline.Timeline.append.Goals as goal

pub invariant_of-self : goal.invariant_of-self
invariant_of-self g c =
    let i = c.self.inside in
    let a : Held = held i.world i.records.items (deque_capacity i.records) i.moments.items i.standing i.gone in
    let b : Held = held i.world c.make_room.new.records.items (deque_capacity c.make_room.new.records) c.make_room.new.moments.items i.standing i.gone in
    let e = c.make_room.ensures in
    Sound-same a b c.self.invariant
    (record { state = refl; ready = refl; records = e.records; moments = ap (λ xs. each (lowered i.gone) (take i.standing xs)) e.moments; undone = ap (λ xs. each (lowered i.gone) (drop i.standing xs)) e.moments; records_room = e.records_kept; standing = refl })

pub returns-in-Err-clause-pasts : goal.returns-in-Err-clause-pasts
returns-in-Err-clause-pasts g c =
    let i = c.self.inside in
    let a : Held = held i.world i.records.items (deque_capacity i.records) i.moments.items i.standing i.gone in
    let b : Held = held i.world c.make_room.new.records.items (deque_capacity c.make_room.new.records) c.make_room.new.moments.items i.standing i.gone in
    let e = c.make_room.ensures in (
      tt,
      pasts_of-same a b c.self.invariant
          (record { state = refl; ready = refl; records = e.records; moments = ap (λ xs. each (lowered i.gone) (take i.standing xs)) e.moments; undone = ap (λ xs. each (lowered i.gone) (drop i.standing xs)) e.moments; records_room = e.records_kept; standing = refl })
          ∙ ap (λ v. v.pasts) c.self.view_is,
    )

pub invariant_of-self-in-Err-done : goal.invariant_of-self-in-Err-done
invariant_of-self-in-Err-done g c =
    let i = c.self.inside in
    let ready : Ready = c.done.new.world.ready in
    let a : Held = with_ready (held i.world i.records.items (deque_capacity i.records) i.moments.items i.standing i.gone) ready in
    let b : Held = held c.done.new.world c.make_room.new.records.items (deque_capacity c.make_room.new.records) c.make_room.new.moments.items i.standing i.gone in
    let e = c.make_room.ensures in
    Sound-same a b (Sound-grow (held i.world i.records.items (deque_capacity i.records) i.moments.items i.standing i.gone) ready (same_grows i.world.ready ready c.in-Err-done.ensures.does.1.boxes) c.self.invariant)
    (record { state = c.in-Err-done.ensures.does.1.state; ready = refl; records = e.records; moments = ap (λ xs. each (lowered i.gone) (take i.standing xs)) e.moments; undone = ap (λ xs. each (lowered i.gone) (drop i.standing xs)) e.moments; records_room = e.records_kept; standing = refl })

pub returns-in-Err-done-clause-pasts : goal.returns-in-Err-done-clause-pasts
returns-in-Err-done-clause-pasts g c =
    let i = c.self.inside in
    let ready : Ready = c.done.new.world.ready in
    let whole : Held = held i.world i.records.items (deque_capacity i.records) i.moments.items i.standing i.gone in
    let a : Held = with_ready whole ready in
    let b : Held = held c.done.new.world c.make_room.new.records.items (deque_capacity c.make_room.new.records) c.make_room.new.moments.items i.standing i.gone in
    let e = c.make_room.ensures in
    let w : now c.args.self.now.pasts ≡ i.world.state = ap (λ v. now v.pasts) (sym c.self.view_is) ∙ now-pasts_of whole c.self.invariant in (
      reason_why i.world c.args.self.now c.args.change.now c.in-Err-done.refusal (ap (λ v. v.makes) (sym c.self.view_is)) w c.in-Err-done.ensures.does.0,
      pasts_of-same a b (Sound-grow whole ready (same_grows i.world.ready ready c.in-Err-done.ensures.does.1.boxes) c.self.invariant)
          (record { state = c.in-Err-done.ensures.does.1.state; ready = refl; records = e.records; moments = ap (λ xs. each (lowered i.gone) (take i.standing xs)) e.moments; undone = ap (λ xs. each (lowered i.gone) (drop i.standing xs)) e.moments; records_room = e.records_kept; standing = refl })
          ∙ pasts_of-ready whole ready ∙ ap (λ v. v.pasts) c.self.view_is,
    )

pub invariant_of-self-2 : goal.invariant_of-self-2
invariant_of-self-2 g c =
    let i = c.self.inside in
    let ready : Ready = c.done.new.world.ready in
    let whole : Held = held i.world i.records.items (deque_capacity i.records) i.moments.items i.standing i.gone in
    let a : Held = with_ready whole ready in
    let b : Held = held c.done.new.world c.push_back_reserved.new.self.items (deque_capacity c.push_back_reserved.new.self) c.push_back_reserved-2.new.self.items c.len-self-inside.result i.gone in
    let r : Recorded = c.in-Ok-done.both.1 in
    let n : MomentView = c.of_change.result in
    let m : MomentView = lowered i.gone n in
    let all : c.push_back_reserved-2.new.self.items ≡ take i.standing i.moments.items ++ n ∷ [] = c.push_back_reserved-2.ensures.items ∙ ap (λ xs. xs ++ n ∷ []) (c.truncate.ensures.items ∙ ap (take i.standing) c.make_room.ensures.moments) in
    let stands = pushed_stands (lowered i.gone) i.standing i.moments.items c.push_back_reserved-2.new.self.items n all in
    let len : c.len-self-inside.result ≡ length c.push_back_reserved-2.new.self.items = c.len-self-inside.ensures ∙ c.push_back_reserved-2.new.self.ok.0 in
    let at_is : n.at ≡ i.gone + length i.records.items = omega (arith, ap (λ (x : MomentView). x.at) c.of_change.ensures, c.behind-at.ensures, c.len.ensures, c.make_room.new.records.ok.0, ap length c.make_room.ensures.records) in
    let it : AppendsTo a b r m = record {
      acts = c.in-Ok-done.ensures.does.1.acts;
      own = c.in-Ok-done.ensures.does.1.own;
      bytes = c.in-Ok-done.ensures.does.1.bytes;
      joins = c.in-Ok-done.ensures.does.1.joins;
      retires = c.in-Ok-done.ensures.does.1.retires;
      ready = refl;
      fits = omega (arith, c.push_back_reserved.new.self.ok.0, c.push_back_reserved.new.self.ok.1);
      records = c.push_back_reserved.ensures.items ∙ ap (λ xs. xs ++ r ∷ []) c.make_room.ensures.records;
      moments = ap (λ k. each (lowered i.gone) (take k c.push_back_reserved-2.new.self.items)) len ∙ stands.0;
      undone = ap (λ k. each (lowered i.gone) (drop k c.push_back_reserved-2.new.self.items)) len ∙ stands.1;
      at = lowered-at i.gone (length i.records.items) n at_is;
      stays = ap (λ (x : MomentView). x.stays) c.of_change.ensures;
      serial = ap (λ (x : MomentView). x.serial) c.of_change.ensures ∙ sym (ap (λ (e : Entry). e.serial) c.in-Ok-done.ensures.does.0);
      out = ap (λ (x : MomentView). x.out) c.of_change.ensures;
      other = lowered-other i.gone (length i.records.items) n at_is ∙ ap (λ (x : MomentView). x.other) c.of_change.ensures;
      spare_room = omega (arith, ap (λ (x : MomentView). x.room) c.of_change.ensures);
      room = omega (arith, c.push_back_reserved.ensures.capacity, c.make_room.ensures.records_kept);
      counts = ap (λ k. length (each (lowered i.gone) (take k c.push_back_reserved-2.new.self.items))) len ∙ stands.2 ∙ sym len;
    } in
    Sound-append a b r m (Sound-grow whole ready (same_grows i.world.ready ready c.in-Ok-done.ensures.does.1.boxes) c.self.invariant) it

pub behind-at-requires : goal.behind-at-requires
behind-at-requires g c = omega (arith, c.len.ensures, c.make_room.new.records.small.0, c.make_room.new.records.small.1)

pub returns-clause-pasts : goal.returns-clause-pasts
returns-clause-pasts g c =
    let i = c.self.inside in
    let ready : Ready = c.done.new.world.ready in
    let whole : Held = held i.world i.records.items (deque_capacity i.records) i.moments.items i.standing i.gone in
    let a : Held = with_ready whole ready in
    let b : Held = held c.done.new.world c.push_back_reserved.new.self.items (deque_capacity c.push_back_reserved.new.self) c.push_back_reserved-2.new.self.items c.len-self-inside.result i.gone in
    let r : Recorded = c.in-Ok-done.both.1 in
    let n : MomentView = c.of_change.result in
    let m : MomentView = lowered i.gone n in
    let all : c.push_back_reserved-2.new.self.items ≡ take i.standing i.moments.items ++ n ∷ [] = c.push_back_reserved-2.ensures.items ∙ ap (λ xs. xs ++ n ∷ []) (c.truncate.ensures.items ∙ ap (take i.standing) c.make_room.ensures.moments) in
    let stands = pushed_stands (lowered i.gone) i.standing i.moments.items c.push_back_reserved-2.new.self.items n all in
    let len : c.len-self-inside.result ≡ length c.push_back_reserved-2.new.self.items = c.len-self-inside.ensures ∙ c.push_back_reserved-2.new.self.ok.0 in
    let at_is : n.at ≡ i.gone + length i.records.items = omega (arith, ap (λ (x : MomentView). x.at) c.of_change.ensures, c.behind-at.ensures, c.len.ensures, c.make_room.new.records.ok.0, ap length c.make_room.ensures.records) in
    let it : AppendsTo a b r m = record {
      acts = c.in-Ok-done.ensures.does.1.acts;
      own = c.in-Ok-done.ensures.does.1.own;
      bytes = c.in-Ok-done.ensures.does.1.bytes;
      joins = c.in-Ok-done.ensures.does.1.joins;
      retires = c.in-Ok-done.ensures.does.1.retires;
      ready = refl;
      fits = omega (arith, c.push_back_reserved.new.self.ok.0, c.push_back_reserved.new.self.ok.1);
      records = c.push_back_reserved.ensures.items ∙ ap (λ xs. xs ++ r ∷ []) c.make_room.ensures.records;
      moments = ap (λ k. each (lowered i.gone) (take k c.push_back_reserved-2.new.self.items)) len ∙ stands.0;
      undone = ap (λ k. each (lowered i.gone) (drop k c.push_back_reserved-2.new.self.items)) len ∙ stands.1;
      at = lowered-at i.gone (length i.records.items) n at_is;
      stays = ap (λ (x : MomentView). x.stays) c.of_change.ensures;
      serial = ap (λ (x : MomentView). x.serial) c.of_change.ensures ∙ sym (ap (λ (e : Entry). e.serial) c.in-Ok-done.ensures.does.0);
      out = ap (λ (x : MomentView). x.out) c.of_change.ensures;
      other = lowered-other i.gone (length i.records.items) n at_is ∙ ap (λ (x : MomentView). x.other) c.of_change.ensures;
      spare_room = omega (arith, ap (λ (x : MomentView). x.room) c.of_change.ensures);
      room = omega (arith, c.push_back_reserved.ensures.capacity, c.make_room.ensures.records_kept);
      counts = ap (λ k. length (each (lowered i.gone) (take k c.push_back_reserved-2.new.self.items))) len ∙ stands.2 ∙ sym len;
    } in
    let w : now c.args.self.now.pasts ≡ i.world.state = ap (λ v. now v.pasts) (sym c.self.view_is) ∙ now-pasts_of whole c.self.invariant in (
      c.done.new.world.state,
      ap (λ v. act v c.args.change.now) w ∙ ap (λ (e : Entry). act i.world.state e.change) (sym c.in-Ok-done.ensures.does.0) ∙ c.in-Ok-done.ensures.does.1.acts ∙ ap (λ (e : Entry). Ok (c.done.new.world.state, e.reply)) c.in-Ok-done.ensures.does.0,
      pasts_of-append a b r m (Sound-grow whole ready (same_grows i.world.ready ready c.in-Ok-done.ensures.does.1.boxes) c.self.invariant) it
          ∙ ap (λ p. appended p r.entry c.done.new.world.state) (pasts_of-ready whole ready ∙ ap (λ v. v.pasts) c.self.view_is)
          ∙ ap (λ (e : Entry). appended c.args.self.now.pasts e c.done.new.world.state) c.in-Ok-done.ensures.does.0,
    )

pub returns-in-Err-clause-work : goal.returns-in-Err-clause-work
returns-in-Err-clause-work g c = within_none _ _ _ (ap (λ v. v.work) c.self.view_is)

pub returns-in-Err-done-clause-work : goal.returns-in-Err-done-clause-work
returns-in-Err-done-clause-work g c =
    let i = c.self.inside in
    let a : Held = held i.world i.records.items (deque_capacity i.records) i.moments.items i.standing i.gone in
    let s : State = now c.args.self.now.pasts in
    let is : i.world.state ≡ s = sym (now-pasts_of a c.self.invariant) ∙ ap (λ v. now v.pasts) c.self.view_is in
    subst (λ (k : ℕ). CallsAtMost (calls_refused (walks s c.args.change.now) (most_calls s c.args.change.now)) k c.done.new.world.work) (ap (λ v. v.work) c.self.view_is)
    (subst (λ (v : State). CallsAtMost (calls_refused (walks v c.args.change.now) (most_calls v c.args.change.now)) i.world.work c.done.new.world.work) is c.in-Err-done.ensures.work)

pub returns-clause-work : goal.returns-clause-work
returns-clause-work g c =
    let i = c.self.inside in
    let a : Held = held i.world i.records.items (deque_capacity i.records) i.moments.items i.standing i.gone in
    let s : State = now c.args.self.now.pasts in
    let is : i.world.state ≡ s = sym (now-pasts_of a c.self.invariant) ∙ ap (λ v. now v.pasts) c.self.view_is in
    subst (λ (k : ℕ). Adds (walks s c.args.change.now) (most_calls s c.args.change.now) k (after_change c.args.change.now k) c.done.new.world.work) (ap (λ v. v.work) c.self.view_is)
    (subst (λ (v : State). Adds (walks v c.args.change.now) (most_calls v c.args.change.now) i.world.work (after_change c.args.change.now i.world.work) c.done.new.world.work) is c.in-Ok-done.ensures.work)
