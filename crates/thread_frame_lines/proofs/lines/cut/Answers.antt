use Rattle.std.proofs.Common.{◌==◌, ◌≡◌, ◌+◌, ℕ, drop, sym, ◌∙◌, ap, Bool}
use Rattle.std.proofs.lemmas.List.{drop-drop}
use Rattle.thread_frame_lines.proofs.Cutting.{front_at, behind_at, parts_at, front_whole, none_behind, one_part}
use Rattle.thread_frame_lines.proofs.lines.cut.Goals as goal

pub returns-in-Some-clause-front : goal.returns-in-Some-clause-front
returns-in-Some-clause-front c = c.split_at.ensures.front ∙ front_at (λ byte. byte == c.args.at) c.args.text.now c.in-Some.len (sym c.place_of.ensures ∙ c.in-Some.is)

pub returns-in-Some-clause-behind : goal.returns-in-Some-clause-behind
returns-in-Some-clause-behind c =
    c.split_at-in-Some.ensures.back ∙ ap (drop 1) c.split_at.ensures.back ∙ drop-drop 1 c.in-Some.len c.args.text.now
    ∙ behind_at (λ byte. byte == c.args.at) c.args.text.now c.in-Some.len (sym c.place_of.ensures ∙ c.in-Some.is)

pub returns-in-Some-clause-parts : goal.returns-in-Some-clause-parts
returns-in-Some-clause-parts c =
    let is_it : ℕ → Bool = λ byte. byte == c.args.at in
    let len : ℕ = c.in-Some.len in
    let behind : c.split_at-in-Some.result.1.now ≡ drop (len + 1) c.args.text.now = c.split_at-in-Some.ensures.back ∙ ap (drop 1) c.split_at.ensures.back ∙ drop-drop 1 len c.args.text.now in
    rw (c.split_at.ensures.front, behind) (parts_at is_it c.args.text.now len (sym c.place_of.ensures ∙ c.in-Some.is))

pub returns-in-None-clause-front : goal.returns-in-None-clause-front
returns-in-None-clause-front c = front_whole (λ byte. byte == c.args.at) c.args.text.now (sym c.place_of.ensures ∙ c.in-None.is)

pub returns-in-None-clause-none_behind : goal.returns-in-None-clause-none_behind
returns-in-None-clause-none_behind c = none_behind (λ byte. byte == c.args.at) c.args.text.now (sym c.place_of.ensures ∙ c.in-None.is)

pub returns-in-None-clause-parts : goal.returns-in-None-clause-parts
returns-in-None-clause-parts c = one_part (λ byte. byte == c.args.at) c.args.text.now (sym c.place_of.ensures ∙ c.in-None.is)
