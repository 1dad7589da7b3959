-- What a kind of map owes of a change: that it followed the table is enough.
use Rattle.std.proofs.Common.{◌≡◌, ◌≢◌, ℕ, Bool, true, IsTrue, List, [], ◌∷◌, length, replicate, Option, Some, None, Result, Ok, Err, ◌≤◌, refl, sym, ap, subst, ◌∙◌, arith}
use Rattle.std.specs.Option.{SomeIff}
use Rattle.std.specs.List.{All}
use Rattle.std.proofs.lemmas.List.Elements.{All-head, All-tail}
use Rattle.bt_mapkind.specs.declared.attr.MapAttr.{MapAttr}
use Rattle.bt_mapkind.specs.declared.exchange.Back.{Back}
use Rattle.bt_mapkind.specs.declared.request.MapOp.{MapOp}
use Rattle.bt_mapkind.specs.declared.request.MapReply.{MapReply}
use Rattle.bt_mapkind.specs.declared.request.MapFault.{MapFault}
use Rattle.bt_mapkind.specs.declared.request.MapFault.TheVariants.{NoMemory}
use Rattle.bt_mapkind.specs.Attributes.{charge_of}
use Rattle.bt_mapkind.specs.Contents.{Contents}
use Rattle.bt_mapkind.specs.Well.{IsWell}
use Rattle.bt_mapkind.specs.Kept.{bytes_in, room_of}
use Rattle.bt_mapkind.specs.Reply.{reply_with, answer_with}
use Rattle.bt_mapkind.specs.Seen.{Seen}
use Rattle.bt_mapkind.specs.Answers.{Follows, IsChange, IsDone}
use Rattle.bt_mapkind.proofs.Turning.{taken_back}
use Rattle.bt_mapkind.proofs.Replies.{replies}
use Rattle.bt_mapkind.proofs.Reserved.{fits_in}

-- ---- a change
pub change_by_table : (a : MapAttr) (charge : ℕ) (roomy : Bool) (old new : Contents) (op : MapOp) (result : Result (MapReply × Back) MapFault) → IsWell a old → Follows a old op result new → (IsTrue roomy → result ≢ Err NoMemory)
    → IsChange (record { attr = a; contents = old; charge = charge; roomy = roomy }) op result (record { attr = a; contents = new; charge = charge; roomy = roomy })
change_by_table a charge roomy old new op (Ok done) w f room =
    let t = taken_back a old op _ w f in
    record { step = f; make = record { attr = refl; charge = refl; roomy = refl }; fits = t.turnable.fits; restores = t.restores }
change_by_table a charge roomy old new op (Err fault) w f room =
    record { told = f.0; room = λ all is. room all (ap Err is); same = ap (λ c. record { attr = a; contents = c; charge = charge; roomy = roomy }) f.1 }

-- ---- a change whose exchange is kept
-- its reply follows from the exchange
pub kept_done : (s t : Seen) (op : MapOp) (reply : MapReply) (back left : Back) → IsDone s op reply back t → left ≡ back → IsDone s op (reply_with op left) left t
kept_done s t op reply back left done is =
    subst (λ b. IsDone s op (reply_with op b) b t) (sym is)
    (subst (λ r. IsDone s op r back t) (replies s.attr s.contents op (record { contents = t.contents; reply = reply; back = back }) done.step) done)

-- what holds every exchange of the map holds this one
pub room_suffices : (s t : Seen) (op : MapOp) (reply : MapReply) (back : Back) (room : ℕ) → IsDone s op reply back t → room_of s.attr ≤ room → bytes_in back ≤ room
room_suffices s t op reply back room done enough =
    let within : bytes_in back ≤ room_of s.attr = subst (λ a. bytes_in back ≤ room_of a) done.make.attr (fits_in t.attr t.contents back done.fits) in omega arith

-- no lack of memory is told
pub answer_has_room : (op : MapOp) (result : Result (Unit {0}) MapFault) (back : Back) → result ≢ Err NoMemory → answer_with op result back ≢ Err NoMemory
answer_has_room op (Ok done) back room is = cc
answer_has_room op (Err fault) back room is = room (ap Err (same is))
  where
    same : {f : MapFault} → (let r : Result (MapReply × Back) MapFault = Err f in r ≡ Err NoMemory) → f ≡ NoMemory
    same e = cc

-- a change by a kind whose room was reserved when it was made
pub changes : (a new : MapAttr) (c d : Contents) (op asked : MapOp) (result : Result (MapReply × Back) MapFault) → IsWell a c → asked ≡ op → new ≡ a → Follows a c op result d → result ≢ Err NoMemory
    → IsChange (record { attr = a; contents = c; charge = charge_of a; roomy = true }) asked result (record { attr = new; contents = d; charge = charge_of new; roomy = true })
changes a new c d op asked result w is same f room = rw (is, same) (change_by_table a (charge_of a) true c d op result w f (λ _. room))

-- and one whose exchange is kept
pub changes_into : (a new : MapAttr) (c d : Contents) (op asked : MapOp) (result : Result (Unit {0}) MapFault) (back : Back) → IsWell a c → asked ≡ op → new ≡ a → Follows a c op (answer_with op result back) d → result ≢ Err NoMemory
    → IsChange (record { attr = a; contents = c; charge = charge_of a; roomy = true }) asked (answer_with asked result back) (record { attr = new; contents = d; charge = charge_of new; roomy = true })
changes_into a new c d op asked result back w is same f room =
    subst (λ o. IsChange (record { attr = a; contents = c; charge = charge_of a; roomy = true }) o (answer_with o result back) (record { attr = new; contents = d; charge = charge_of new; roomy = true })) (sym is)
    (changes a new c d op op (answer_with op result back) w refl same f (answer_has_room op result back room))

-- ---- a value that is there if a fact holds
pub some_is : {X : Type 0} (r : Option X) (P : Type 0) (v x : X) → SomeIff r P v → r ≡ Some x → x ≡ v
some_is None P v x s e = cc
some_is (Some y) P v x s e = cc

-- ---- a list of one value
all_alike : {X : Type 0} (x : X) (xs : List X) → All (λ y. y ≡ x) xs → xs ≡ replicate (length xs) x
all_alike x [] all = refl
all_alike x (y ∷ ys) all = λ i. All-head (λ y. y ≡ x) y ys all i ∷ all_alike x ys (All-tail (λ y. y ≡ x) y ys all) i

pub replicate_of_all : {X : Type 0} (x : X) (xs : List X) (n : ℕ) → length xs ≡ n → All (λ y. y ≡ x) xs → xs ≡ replicate n x
replicate_of_all x xs n long all = all_alike x xs all ∙ ap (λ k. replicate k x) long
