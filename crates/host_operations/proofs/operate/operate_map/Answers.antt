use Rattle.std.proofs.Common.{Ok, Err, inr, ◌&&◌, not, sym, ap, subst, ◌∙◌}
use Rattle.std.specs.FinMap as map
use Rattle.bt_mapkind.specs.Kept.{is_new}
use Rattle.bt_mapkind.specs.Seen.{Seen}
use Rattle.bt_mapkind.specs.Reply.{reply_with}
use Rattle.host_state.specs.declared.reply.Reply.{Reply}
use Rattle.host_state.specs.Act.{reply_of}
use Rattle.bt_objects.specs.Boxes.{ById}
use Rattle.host_undoing.specs.declared.undoing.Part.TheVariants.{Contents}
use Rattle.host_state.specs.Hosts.{view_of, IsSound, entries_in}
use Rattle.host_retirement.specs.Gathered.{calls_in}
use Rattle.host_undoing.specs.Exchange.{IsBoxTurned}
use Rattle.host_undoing.proofs.TurnedLemmas.{FitsBox}
use Rattle.host_operations.specs.Operated.{OperatesOn, takes_link_at}
use Rattle.host_operations.proofs.OperationLemmas.{led, operated_there, kind_there}
use Rattle.host_operations.proofs.OperatedLemmas.{box_there}
use Rattle.host_state.specs.declared.reply.Refusal.{Refusal}
use Rattle.host_operations.proofs.DoneLemmas.{live_entry, nothing_yet, middle_built, retires_so, done_sound, done_on, fits_back, back_in_place, same_host, same_sound, refused_same, refused_as}
use Rattle.host_operations.proofs.WorkLemmas.{takes_so, works_done, works_refused, works_back, room_stays}
use Rattle.host_operations.proofs.operate.operate_map.Goals as goal

pub returns-in-Err-clause-operated : goal.returns-in-Err-clause-operated
returns-in-Err-clause-operated g c =
    let there = live_entry _ c.requires.live in
    subst (λ (r : Refusal). OperatesOn (view_of c.args.host.now.objects.by_id (entries_in c.args.host.now.entries) c.args.host.now.roots c.args.host.now.objects.work) c.args.map c.args.op.now (Err r) (view_of c.operate_at.new.self.by_id (entries_in c.args.host.now.entries) c.args.host.now.roots c.operate_at.new.self.work)) (sym c.refused_by.ensures)
    (refused_as c.args.host.now.objects.by_id c.operate_at.new.self.by_id (entries_in c.args.host.now.entries) c.args.host.now.roots c.args.host.now.objects.work c.operate_at.new.self.work c.args.map c.args.op.now c.in-Err.fault there.0 there.1
    (led c.args.host.now.objects.by_id c.operate_at.new.self.by_id c.args.map c.args.op.now (Err c.in-Err.fault) (box_there c.args.host.now.objects.by_id (entries_in c.args.host.now.entries) c.args.map there.0 (c.requires.sound.built.same_ids c.args.map) there.1) c.in-Err.ensures.operated))

pub returns-in-Err-clause-sound : goal.returns-in-Err-clause-sound
returns-in-Err-clause-sound g c =
    let there = live_entry _ c.requires.live in
    subst (λ (b : ById Seen). IsSound b (entries_in c.args.host.now.entries) c.args.host.now.roots)
    (sym (refused_same c.args.host.now.objects.by_id c.operate_at.new.self.by_id c.args.map c.args.op.now c.in-Err.fault
    (led c.args.host.now.objects.by_id c.operate_at.new.self.by_id c.args.map c.args.op.now (Err c.in-Err.fault) (box_there c.args.host.now.objects.by_id (entries_in c.args.host.now.entries) c.args.map there.0 (c.requires.sound.built.same_ids c.args.map) there.1) c.in-Err.ensures.operated))) c.requires.sound

pub returns-in-Err-clause-work : goal.returns-in-Err-clause-work
returns-in-Err-clause-work g c = works_refused _ _ _ (takes_link_at (map.get c.args.host.now.objects.by_id c.args.map) c.args.op.now) (calls_in c.args.host.now.objects.by_id (entries_in c.args.host.now.entries)) c.args.host.now.objects.work c.operate_at.new.self.work (inr c.operate_at.ensures.work)

pub retire_if-requires-after_bounds : goal.retire_if-requires-after_bounds
retire_if-requires-after_bounds g c κs within =
    let there = live_entry _ c.requires.live in
    middle_built c.args.host.now.objects.by_id c.operate_at.new.self.by_id (entries_in c.args.host.now.entries) (entries_in c.args.host.now.entries) c.args.host.now.roots 0 0 c.args.map c.args.op.now (reply_of c.args.op.now (reply_with c.args.op.now c.in-Ok.left.kept.back)) c.in-Ok.left.kept nothing_yet there.0 there.1 there.2 c.requires.sound (operated_there c.args.host.now.objects.by_id c.operate_at.new.self.by_id c.args.map c.args.op.now c.in-Ok.left c.is_bounded.ensures (box_there c.args.host.now.objects.by_id (entries_in c.args.host.now.entries) c.args.map there.0 (c.requires.sound.built.same_ids c.args.map) there.1) c.in-Ok.ensures.operated) c.requires.puts

pub turn_contents-requires-after_bounds : goal.turn_contents-requires-after_bounds
turn_contents-requires-after_bounds g c κs within =
    let there = live_entry _ c.requires.live in
    subst (λ (b : ById Seen). FitsBox b c.args.map c.in-Ok.left.kept) (sym c.retire_if.ensures.same)
    (fits_back c.args.host.now.objects.by_id c.operate_at.new.self.by_id (entries_in c.args.host.now.entries) (entries_in c.args.host.now.entries) c.args.host.now.roots 0 0 c.args.map c.args.op.now (reply_of c.args.op.now (reply_with c.args.op.now c.in-Ok.left.kept.back)) c.in-Ok.left.kept nothing_yet there.0 there.1 there.2 c.requires.sound (operated_there c.args.host.now.objects.by_id c.operate_at.new.self.by_id c.args.map c.args.op.now c.in-Ok.left c.is_bounded.ensures (box_there c.args.host.now.objects.by_id (entries_in c.args.host.now.entries) c.args.map there.0 (c.requires.sound.built.same_ids c.args.map) there.1) c.in-Ok.ensures.operated) c.requires.puts)

pub returns-in-Ok-retire_if-clause-sound : goal.returns-in-Ok-retire_if-clause-sound
returns-in-Ok-retire_if-clause-sound g c =
    let there = live_entry _ c.requires.live in
    subst (λ (b : ById Seen). IsSound b (entries_in c.retire_if.new.entries) c.args.host.now.roots) (sym c.retire_if.ensures.same)
    (done_sound c.args.host.now.objects.by_id c.operate_at.new.self.by_id (entries_in c.args.host.now.entries) (entries_in c.retire_if.new.entries) c.args.host.now.roots c.args.host.now.objects.work c.retire_if.new.objects.work c.args.map c.args.op.now (reply_of c.args.op.now (reply_with c.args.op.now c.in-Ok.left.kept.back)) c.in-Ok.left.kept c.in-Ok-retire_if.retired there.0 there.1 there.2 c.requires.sound (operated_there c.args.host.now.objects.by_id c.operate_at.new.self.by_id c.args.map c.args.op.now c.in-Ok.left c.is_bounded.ensures (box_there c.args.host.now.objects.by_id (entries_in c.args.host.now.entries) c.args.map there.0 (c.requires.sound.built.same_ids c.args.map) there.1) c.in-Ok.ensures.operated) c.requires.puts
    (retires_so c.args.host.now.objects.by_id c.operate_at.new.self.by_id (entries_in c.args.host.now.entries) (entries_in c.retire_if.new.entries) c.args.host.now.roots c.args.host.now.objects.work c.retire_if.new.objects.work c.args.map c.args.op.now (reply_of c.args.op.now (reply_with c.args.op.now c.in-Ok.left.kept.back)) c.in-Ok.left.kept c.in-Ok-retire_if.retired there.0 there.1 there.2 c.requires.sound (operated_there c.args.host.now.objects.by_id c.operate_at.new.self.by_id c.args.map c.args.op.now c.in-Ok.left c.is_bounded.ensures (box_there c.args.host.now.objects.by_id (entries_in c.args.host.now.entries) c.args.map there.0 (c.requires.sound.built.same_ids c.args.map) there.1) c.in-Ok.ensures.operated) c.requires.puts c.takes_link.result (c.takes_link.ensures ∙ ap (λ b. b && not (is_new c.in-Ok.left.kept.back)) (kind_there c.args.host.now.objects.by_id c.operate_at.new.self.by_id c.args.map c.args.op.now c.in-Ok.left (box_there c.args.host.now.objects.by_id (entries_in c.args.host.now.entries) c.args.map there.0 (c.requires.sound.built.same_ids c.args.map) there.1) c.in-Ok.ensures.operated)) c.in-Ok-retire_if.ensures.retired))

pub returns-in-Ok-retire_if-clause-operated : goal.returns-in-Ok-retire_if-clause-operated
returns-in-Ok-retire_if-clause-operated g c =
    let there = live_entry _ c.requires.live in
    subst (λ (reply : Reply). OperatesOn (view_of c.args.host.now.objects.by_id (entries_in c.args.host.now.entries) c.args.host.now.roots c.args.host.now.objects.work) c.args.map c.args.op.now (Ok (reply, record { part = Contents c.args.map c.in-Ok.left.kept; retired = c.in-Ok-retire_if.retired })) (view_of c.retire_if.new.objects.by_id (entries_in c.retire_if.new.entries) c.args.host.now.roots c.retire_if.new.objects.work)) (sym c.reply_to-reply.ensures)
    (subst (λ (b : ById Seen). OperatesOn (view_of c.args.host.now.objects.by_id (entries_in c.args.host.now.entries) c.args.host.now.roots c.args.host.now.objects.work) c.args.map c.args.op.now (Ok (reply_of c.args.op.now (reply_with c.args.op.now c.in-Ok.left.kept.back), record { part = Contents c.args.map c.in-Ok.left.kept; retired = c.in-Ok-retire_if.retired })) (view_of b (entries_in c.retire_if.new.entries) c.args.host.now.roots c.retire_if.new.objects.work))
    (sym c.retire_if.ensures.same)
    (done_on c.args.host.now.objects.by_id c.operate_at.new.self.by_id (entries_in c.args.host.now.entries) (entries_in c.retire_if.new.entries) c.args.host.now.roots c.args.host.now.objects.work c.retire_if.new.objects.work c.args.map c.args.op.now (reply_of c.args.op.now (reply_with c.args.op.now c.in-Ok.left.kept.back)) c.in-Ok.left.kept c.in-Ok-retire_if.retired there.0 there.1 there.2 c.requires.sound (operated_there c.args.host.now.objects.by_id c.operate_at.new.self.by_id c.args.map c.args.op.now c.in-Ok.left c.is_bounded.ensures (box_there c.args.host.now.objects.by_id (entries_in c.args.host.now.entries) c.args.map there.0 (c.requires.sound.built.same_ids c.args.map) there.1) c.in-Ok.ensures.operated) c.requires.puts
    (retires_so c.args.host.now.objects.by_id c.operate_at.new.self.by_id (entries_in c.args.host.now.entries) (entries_in c.retire_if.new.entries) c.args.host.now.roots c.args.host.now.objects.work c.retire_if.new.objects.work c.args.map c.args.op.now (reply_of c.args.op.now (reply_with c.args.op.now c.in-Ok.left.kept.back)) c.in-Ok.left.kept c.in-Ok-retire_if.retired there.0 there.1 there.2 c.requires.sound (operated_there c.args.host.now.objects.by_id c.operate_at.new.self.by_id c.args.map c.args.op.now c.in-Ok.left c.is_bounded.ensures (box_there c.args.host.now.objects.by_id (entries_in c.args.host.now.entries) c.args.map there.0 (c.requires.sound.built.same_ids c.args.map) there.1) c.in-Ok.ensures.operated) c.requires.puts c.takes_link.result (c.takes_link.ensures ∙ ap (λ b. b && not (is_new c.in-Ok.left.kept.back)) (kind_there c.args.host.now.objects.by_id c.operate_at.new.self.by_id c.args.map c.args.op.now c.in-Ok.left (box_there c.args.host.now.objects.by_id (entries_in c.args.host.now.entries) c.args.map there.0 (c.requires.sound.built.same_ids c.args.map) there.1) c.in-Ok.ensures.operated)) c.in-Ok-retire_if.ensures.retired)))

pub returns-in-Ok-retire_if-clause-work : goal.returns-in-Ok-retire_if-clause-work
returns-in-Ok-retire_if-clause-work g c =
    let there = live_entry _ c.requires.live in
    let u = operated_there c.args.host.now.objects.by_id c.operate_at.new.self.by_id c.args.map c.args.op.now c.in-Ok.left c.is_bounded.ensures (box_there c.args.host.now.objects.by_id (entries_in c.args.host.now.entries) c.args.map there.0 (c.requires.sound.built.same_ids c.args.map) there.1) c.in-Ok.ensures.operated in
    works_done _ _ _ (takes_link_at (map.get c.args.host.now.objects.by_id c.args.map) c.args.op.now) c.takes_link.result (calls_in c.args.host.now.objects.by_id (entries_in c.args.host.now.entries)) (calls_in c.operate_at.new.self.by_id (entries_in c.args.host.now.entries)) c.args.host.now.objects.work c.operate_at.new.self.work c.retire_if.new.objects.work
    (c.takes_link.ensures ∙ ap (λ b. b && not (is_new c.in-Ok.left.kept.back)) (kind_there c.args.host.now.objects.by_id c.operate_at.new.self.by_id c.args.map c.args.op.now c.in-Ok.left (box_there c.args.host.now.objects.by_id (entries_in c.args.host.now.entries) c.args.map there.0 (c.requires.sound.built.same_ids c.args.map) there.1) c.in-Ok.ensures.operated) ∙ takes_so c.args.host.now.objects.by_id c.operate_at.new.self.by_id c.args.map c.args.op.now (reply_of c.args.op.now (reply_with c.args.op.now c.in-Ok.left.kept.back)) c.in-Ok.left.kept u (c.requires.sound.built.well c.args.map u.before u.there))
    (room_stays c.args.host.now.objects.by_id c.operate_at.new.self.by_id (entries_in c.args.host.now.entries) c.args.map c.args.op.now (reply_of c.args.op.now (reply_with c.args.op.now c.in-Ok.left.kept.back)) c.in-Ok.left.kept (operated_there c.args.host.now.objects.by_id c.operate_at.new.self.by_id c.args.map c.args.op.now c.in-Ok.left c.is_bounded.ensures (box_there c.args.host.now.objects.by_id (entries_in c.args.host.now.entries) c.args.map there.0 (c.requires.sound.built.same_ids c.args.map) there.1) c.in-Ok.ensures.operated)) c.operate_at.ensures.work c.retire_if.ensures.work

pub returns-in-Err-retire_if-clause-sound : goal.returns-in-Err-retire_if-clause-sound
returns-in-Err-retire_if-clause-sound g c =
    let there = live_entry _ c.requires.live in
    same_sound c.args.host.now.objects.by_id c.turn_contents.new.objects.by_id (entries_in c.args.host.now.entries) (entries_in c.retire_if.new.entries) c.args.host.now.roots
    (back_in_place c.args.host.now.objects.by_id c.operate_at.new.self.by_id (entries_in c.args.host.now.entries) (entries_in c.args.host.now.entries) c.args.host.now.roots 0 0 c.args.map c.args.op.now (reply_of c.args.op.now (reply_with c.args.op.now c.in-Ok.left.kept.back)) c.in-Ok.left.kept nothing_yet there.0 there.1 there.2 c.requires.sound (operated_there c.args.host.now.objects.by_id c.operate_at.new.self.by_id c.args.map c.args.op.now c.in-Ok.left c.is_bounded.ensures (box_there c.args.host.now.objects.by_id (entries_in c.args.host.now.entries) c.args.map there.0 (c.requires.sound.built.same_ids c.args.map) there.1) c.in-Ok.ensures.operated) c.requires.puts c.turn_contents.new.objects.by_id c.turn_contents.new.kept
    (subst (λ (b : ById Seen). IsBoxTurned b c.args.map c.in-Ok.left.kept c.turn_contents.new.objects.by_id c.turn_contents.new.kept) c.retire_if.ensures.same c.turn_contents.ensures.turned))
    c.in-Err-retire_if.ensures.refused c.requires.sound

pub returns-in-Err-retire_if-clause-operated : goal.returns-in-Err-retire_if-clause-operated
returns-in-Err-retire_if-clause-operated g c =
    let there = live_entry _ c.requires.live in
    same_host c.args.host.now.objects.by_id c.turn_contents.new.objects.by_id (entries_in c.args.host.now.entries) (entries_in c.retire_if.new.entries) c.args.host.now.roots c.args.host.now.objects.work c.turn_contents.new.objects.work
    (back_in_place c.args.host.now.objects.by_id c.operate_at.new.self.by_id (entries_in c.args.host.now.entries) (entries_in c.args.host.now.entries) c.args.host.now.roots 0 0 c.args.map c.args.op.now (reply_of c.args.op.now (reply_with c.args.op.now c.in-Ok.left.kept.back)) c.in-Ok.left.kept nothing_yet there.0 there.1 there.2 c.requires.sound (operated_there c.args.host.now.objects.by_id c.operate_at.new.self.by_id c.args.map c.args.op.now c.in-Ok.left c.is_bounded.ensures (box_there c.args.host.now.objects.by_id (entries_in c.args.host.now.entries) c.args.map there.0 (c.requires.sound.built.same_ids c.args.map) there.1) c.in-Ok.ensures.operated) c.requires.puts c.turn_contents.new.objects.by_id c.turn_contents.new.kept
    (subst (λ (b : ById Seen). IsBoxTurned b c.args.map c.in-Ok.left.kept c.turn_contents.new.objects.by_id c.turn_contents.new.kept) c.retire_if.ensures.same c.turn_contents.ensures.turned))
    c.in-Err-retire_if.ensures.refused

pub returns-in-Err-retire_if-clause-work : goal.returns-in-Err-retire_if-clause-work
returns-in-Err-retire_if-clause-work g c =
    let there = live_entry _ c.requires.live in
    let u = operated_there c.args.host.now.objects.by_id c.operate_at.new.self.by_id c.args.map c.args.op.now c.in-Ok.left c.is_bounded.ensures (box_there c.args.host.now.objects.by_id (entries_in c.args.host.now.entries) c.args.map there.0 (c.requires.sound.built.same_ids c.args.map) there.1) c.in-Ok.ensures.operated in
    works_back _ _ _ (takes_link_at (map.get c.args.host.now.objects.by_id c.args.map) c.args.op.now) c.takes_link.result (calls_in c.args.host.now.objects.by_id (entries_in c.args.host.now.entries)) (calls_in c.operate_at.new.self.by_id (entries_in c.args.host.now.entries)) c.args.host.now.objects.work c.operate_at.new.self.work c.retire_if.new.objects.work c.turn_contents.new.objects.work
    (c.takes_link.ensures ∙ ap (λ b. b && not (is_new c.in-Ok.left.kept.back)) (kind_there c.args.host.now.objects.by_id c.operate_at.new.self.by_id c.args.map c.args.op.now c.in-Ok.left (box_there c.args.host.now.objects.by_id (entries_in c.args.host.now.entries) c.args.map there.0 (c.requires.sound.built.same_ids c.args.map) there.1) c.in-Ok.ensures.operated) ∙ takes_so c.args.host.now.objects.by_id c.operate_at.new.self.by_id c.args.map c.args.op.now (reply_of c.args.op.now (reply_with c.args.op.now c.in-Ok.left.kept.back)) c.in-Ok.left.kept u (c.requires.sound.built.well c.args.map u.before u.there))
    (room_stays c.args.host.now.objects.by_id c.operate_at.new.self.by_id (entries_in c.args.host.now.entries) c.args.map c.args.op.now (reply_of c.args.op.now (reply_with c.args.op.now c.in-Ok.left.kept.back)) c.in-Ok.left.kept (operated_there c.args.host.now.objects.by_id c.operate_at.new.self.by_id c.args.map c.args.op.now c.in-Ok.left c.is_bounded.ensures (box_there c.args.host.now.objects.by_id (entries_in c.args.host.now.entries) c.args.map there.0 (c.requires.sound.built.same_ids c.args.map) there.1) c.in-Ok.ensures.operated)) c.in-Err-retire_if.ensures.walked c.operate_at.ensures.work c.retire_if.ensures.work c.turn_contents.ensures.work
