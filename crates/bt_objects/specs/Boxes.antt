-- The boxes of a host as contracts see them: by id what is seen of each, and the units of work done.
use Rattle.std.specs.Prelude.{◌≡◌, ◌+◌, ◌-◌, ◌^◌, ℕ, min, List, MatchOption, Result, Err, sum_by, IsOk, refl}
use Rattle.std.specs.Ordering.{nat_cmp}
use Rattle.std.specs.FinMap as map
use Rattle.std.specs.Coded.{Coded, code_by, coded×, coded_ℕ}
use Rattle.bt_mapkind.specs.Codes.{seen_code}
use Rattle.bt_mapkind.specs.declared.exchange.Back.{Back}
use Rattle.bt_mapkind.specs.declared.errno.Errno.TheVariants.{ENOENT}
use Rattle.bt_mapkind.specs.declared.request.MapFault.{MapFault}
use Rattle.bt_mapkind.specs.declared.request.MapFault.TheVariants.{Errno}
use Rattle.bt_mapkind.specs.declared.request.MapReply.{MapReply}
use Rattle.bt_mapkind.specs.declared.request.Query.{Query}
use Rattle.bt_mapkind.specs.Seen.{Seen}
use Rattle.bt_objects.specs.declared.make.Make.{Make}
use Rattle.bt_mapkind.specs.Answers.{IsAnswer, IsTurned}

abbrev pub ById : Type 0 → Type 0
ById X = map.FinMap nat_cmp X

pub record Boxes : Type 0 where
  pub by_id : ById Seen
  pub work : ℕ

abbrev pub boxes_code : Coded Boxes
boxes_code =
    code_by (ById Seen × ℕ) (coded× (map.code coded_ℕ seen_code) coded_ℕ) (λ b. (b.by_id, b.work)) (λ p. record { by_id = p.0; work = p.1 }) (λ _. refl)

-- the sum of the charges
abbrev pub charged_of : ById Seen → ℕ
charged_of boxes = sum_by (λ e. e.1.charge) (map.entries boxes)

-- the work after one unit more, which stays at the greatest u64
abbrev pub one_more : ℕ → ℕ
one_more n = min (n + 1) (2 ^ 64 - 1)

-- what a box was made with
abbrev pub make_of : Seen → Make
make_of s = record { attr = s.attr; charge = s.charge }

-- what is seen of boxes listed with their ids
abbrev pub seen_boxes : List (ℕ × Seen) → ById Seen
seen_boxes bs = map.from_entries bs

-- the sum of the charges of listed boxes
abbrev pub listed_charges : List (ℕ × Seen) → ℕ
listed_charges bs = sum_by (λ b. b.1.charge) bs

-- a question at an id: the box's answer, or ENOENT
abbrev pub ReadAt : ById Seen → ℕ → Query → Result MapReply MapFault → Type 0
ReadAt boxes id query result =
    MatchOption (map.get boxes id) (result ≡ Err (Errno ENOENT)) (λ s. IsAnswer s query result)

-- the box of an id is led to what is seen of it, and the others stay
pub record LeadsTo (old new : ById Seen) (id : ℕ) (P : Seen → Type 0) : Type 0 where
  pub seen : Seen
  pub led : P seen
  pub others : new ≡ map.insert old id seen

-- a turning at an id: the box and the exchange have changed places and the others stay, or ENOENT and all stay
abbrev pub TurnedAt : ById Seen → ℕ → Back → Result (Unit {0}) MapFault → ById Seen → Back → Type 0
TurnedAt old id back result new left =
    MatchOption (map.get old id) ((result ≡ Err (Errno ENOENT)) × (new ≡ old) × (left ≡ back)) (λ s. IsOk result × LeadsTo old new id (λ s'. IsTurned s back s' left))
