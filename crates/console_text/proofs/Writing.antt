-- Writes one after another.
use Rattle.std.proofs.Common.{◌≡◌, ℕ, ◌<◌, ◌≤◌, ◌+◌, List, [], ◌∷◌, ◌++◌, take, drop, length, get_or, Option, Some, None, Result, Ok, Err, refl, sym, ◌∙◌, ap, append_assoc, subst, arith, add-one, length-append}
use Rattle.std.specs.List.{flat_map}
use Rattle.std.specs.Io.KnownBytes.{Appends, Keeps}
use Rattle.std.proofs.lemmas.List.{take-append-drop}
use Rattle.std.proofs.Math.Seq.{drop-cons}
use Rattle.std.proofs.Math.ListN.{drop_of_length-le}
use Rattle.console_text.specs.Written.{WritesFront, Writes}

-- of the whole, all but the rest is written
pub record Written (old new : Option (List ℕ)) (whole rest : List ℕ) : Type 0 where
  pub front : List ℕ
  pub cut : whole ≡ front ++ rest
  pub appends : Appends old new front

pub append_nil : (xs : List ℕ) → xs ++ [] ≡ xs
append_nil [] = refl
append_nil (x ∷ xs) = ap (λ ys. x ∷ ys) (append_nil xs)

pub Appends-nil : (old : Option (List ℕ)) → Appends old old []
Appends-nil None = tt
Appends-nil (Some xs) = sym (append_nil xs)

Appends-keeps : (old new : Option (List ℕ)) → Keeps old new → Appends old new []
Appends-keeps None new h = tt
Appends-keeps (Some xs) None h = h
Appends-keeps (Some xs) (Some ys) h = h ∙ sym (append_nil xs)

-- what took no byte is as it was
pub keeps_idle : (old new : Option (List ℕ)) (n : ℕ) (text : List ℕ) → n ≡ 0 → Appends old new (take n text) → Keeps old new
keeps_idle None new n text none h = tt
keeps_idle (Some xs) None n text none h = h
keeps_idle (Some xs) (Some ys) n text none h = h ∙ ap (λ m. xs ++ take m text) none ∙ append_nil xs

pub Appends-then : (old mid new : Option (List ℕ)) (a b : List ℕ) → Appends old mid a → Appends mid new b → Appends old new (a ++ b)
Appends-then None mid new a b g h = tt
Appends-then (Some xs) None new a b g h = absurd g
Appends-then (Some xs) (Some ys) None a b g h = h
Appends-then (Some xs) (Some ys) (Some zs) a b g h = h ∙ ap (λ ws. ws ++ b) g ∙ append_assoc xs a b

pub written_none : (old : Option (List ℕ)) (whole : List ℕ) → Written old old whole whole
written_none old whole = record { front = []; cut = refl; appends = Appends-nil old }

pub written_more : (old mid new : Option (List ℕ)) (whole part rest : List ℕ) → Written old mid whole (part ++ rest) → Appends mid new part → Written old new whole rest
written_more old mid new whole part rest w h = record { front = w.front ++ part; cut = w.cut ∙ sym (append_assoc w.front part rest); appends = Appends-then old mid new w.front part w.appends h }

pub written_all : (old new : Option (List ℕ)) (whole : List ℕ) → Written old new whole [] → Appends old new whole
written_all old new whole w = subst (λ text. Appends old new text) (sym (w.cut ∙ append_nil w.front)) w.appends

regroup : (a b c d : List ℕ) → a ++ ((b ++ c) ++ d) ≡ (a ++ b) ++ (c ++ d)
regroup a b c d = simp append_assoc

pub written_front : (old mid new : Option (List ℕ)) (whole part rest : List ℕ) → Written old mid whole (part ++ rest) → WritesFront mid new part → WritesFront old new whole
written_front old mid new whole part rest w h = record {
  written = w.front ++ h.written;
  unwritten = h.unwritten ++ rest;
  cut = w.cut ∙ ap (λ text. w.front ++ (text ++ rest)) h.cut ∙ regroup w.front h.written h.unwritten rest;
  some_left = omega (arith, h.some_left, length-append h.unwritten rest);
  appends = Appends-then old mid new w.front h.written w.appends h.appends;
}

-- if a write was refused, a front is written
pub written_stop : (old mid new : Option (List ℕ)) (whole rest : List ℕ) → 0 < length rest → Written old mid whole rest → Keeps mid new → WritesFront old new whole
written_stop old mid new whole rest some w h = record {
  written = w.front;
  unwritten = rest;
  cut = w.cut;
  some_left = some;
  appends = subst (λ text. Appends old new text) (append_nil w.front) (Appends-then old mid new w.front [] w.appends (Appends-keeps mid new h));
}

-- the same if a write took no byte
pub written_idle : (old mid new : Option (List ℕ)) (whole rest : List ℕ) → 0 < length rest → Written old mid whole rest → Appends mid new (take 0 rest) → WritesFront old new whole
written_idle old mid new whole rest some w h = record {
  written = w.front;
  unwritten = rest;
  cut = w.cut;
  some_left = some;
  appends = subst (λ text. Appends old new text) (append_nil w.front) (Appends-then old mid new w.front [] w.appends h);
}

pub written_took : (old mid new : Option (List ℕ)) (whole rest : List ℕ) (n : ℕ) → Written old mid whole rest → Appends mid new (take n rest) → Written old new whole (drop n rest)
written_took old mid new whole rest n w h = written_more old mid new whole (take n rest) (drop n rest) (subst (λ text. Written old mid whole text) (sym (take-append-drop n rest)) w) h

module _ {X : Type 0} (f : X → List ℕ) where
  item_first : (xs : List X) (i : ℕ) (d : X) → i < length xs → flat_map f (drop i xs) ≡ f (get_or xs i d) ++ flat_map f (drop (i + 1) xs)
  item_first xs i d h = ap (flat_map f) (drop-cons xs i d h) ∙ rw add-one refl

  pub written_item : (old mid new : Option (List ℕ)) (whole : List ℕ) (xs : List X) (i : ℕ) (d : X) → i < length xs → Written old mid whole (flat_map f (drop i xs)) → Appends mid new (f (get_or xs i d)) → Written old new whole (flat_map f (drop (i + 1) xs))
  written_item old mid new whole xs i d below w h = written_more old mid new whole (f (get_or xs i d)) _ (subst (λ text. Written old mid whole text) (item_first xs i d below) w) h

  pub written_item_front : (old mid new : Option (List ℕ)) (whole : List ℕ) (xs : List X) (i : ℕ) (d : X) → i < length xs → Written old mid whole (flat_map f (drop i xs)) → WritesFront mid new (f (get_or xs i d)) → WritesFront old new whole
  written_item_front old mid new whole xs i d below w h = written_front old mid new whole (f (get_or xs i d)) (flat_map f (drop (i + 1) xs)) (subst (λ text. Written old mid whole text) (item_first xs i d below) w) h

-- the item at an index goes from what is left to what is gathered
pub gathered_item : {X : Type 0} (f : X → List ℕ) (all line more : List ℕ) (xs : List X) (i : ℕ) (d : X) → i < length xs → all ≡ line ++ flat_map f (drop i xs) → more ≡ line ++ f (get_or xs i d) →
    all ≡ more ++ flat_map f (drop (i + 1) xs)
gathered_item f all line more xs i d below h e =
    h ∙ ap (λ text. line ++ text) (item_first f xs i d below) ∙ sym (append_assoc line (f (get_or xs i d)) (flat_map f (drop (i + 1) xs))) ∙ ap (λ text. text ++ flat_map f (drop (i + 1) xs)) (sym e)

-- and if none is left, all is gathered
pub gathered_all : {X : Type 0} (f : X → List ℕ) (all line : List ℕ) (xs : List X) (i : ℕ) → length xs ≤ i → all ≡ line ++ flat_map f (drop i xs) → line ≡ all
gathered_all f all line xs i past h = sym (h ∙ ap (λ rest. line ++ flat_map f rest) (drop_of_length-le xs past) ∙ append_nil line)

-- two texts one after the other
pub Writes-then : {E : Type 0} (old mid new : Option (List ℕ)) (a b : List ℕ) (r : Result (Unit {0}) E) → Appends old mid a → Writes mid new r b → Writes old new r (a ++ b)
Writes-then old mid new a b (Ok u) g h = Appends-then old mid new a b g h
Writes-then old mid new a b (Err e) g h = record {
  written = a ++ h.written;
  unwritten = h.unwritten;
  cut = ap (λ text. a ++ text) h.cut ∙ sym (append_assoc a h.written h.unwritten);
  some_left = h.some_left;
  appends = Appends-then old mid new a h.written g h.appends;
}

pub WritesFront-more : (old new : Option (List ℕ)) (a b : List ℕ) → WritesFront old new a → WritesFront old new (a ++ b)
WritesFront-more old new a b h = record {
  written = h.written;
  unwritten = h.unwritten ++ b;
  cut = ap (λ text. text ++ b) h.cut ∙ append_assoc h.written h.unwritten b;
  some_left = omega (arith, h.some_left, length-append h.unwritten b);
  appends = h.appends;
}
