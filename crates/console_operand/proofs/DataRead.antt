-- DATA: the words that are read as such are those that spell it.
use Rattle.std.proofs.Common.{◌≡◌, ℕ, ◌+◌, ◌<◌, ◌≤◌, Bool, true, false, cond, List, [], ◌∷◌, ◌++◌, length, refl, sym, ◌∙◌, ap, subst, arith, Option, Some, None, append_assoc, length-append}
use Rattle.std.specs.Prelude.{codes, nat_lt, ◌&&◌, not, ⊤}
use Rattle.std.specs.Option.{option_map}
use Rattle.std.specs.Str.{bytes_eq}
use Rattle.std.proofs.lemmas.Bool.{lt-ltb, ltb-true}
use Rattle.std.proofs.lemmas.List.{append-nil}
use Rattle.std.proofs.lemmas.Slice.Eq.{bytes_eq-Decides}
use Rattle.std.proofs.Math.Bool.{and-false}
use Rattle.console_operand.specs.Automaton.{Reading, Leads, Takes}
use Rattle.console_operand.specs.Number.{byte_of, hex_byte_of}
use Rattle.console_operand.specs.Data.{AreBytes, IsData, plain, hex}
use Rattle.console_operand.specs.DataSteps.{no_data, no_hex_data, is_empty, begins_hex, spelled_byte, next_byte, with_byte, data_step, some_bytes, data_finish, TakesByte, TakesBytes}
use Rattle.console_operand.specs.declared.data_words.Data.{Data}
use Rattle.console_operand.proofs.PartRead.{Ends}

-- DATA ends in front of the words
abbrev pub EndsData : List (List ℕ) → Type 0
EndsData [] = ⊤
EndsData (word ∷ words) = (d : Data) → data_step d word ≡ None

same_both : {A : Type 0} (b : Bool) (x : A) → cond b x x ≡ x
same_both true x = refl
same_both false x = refl

-- DATA that has a byte may end
some_finish : (bytes : List ℕ) → 0 < length bytes → some_bytes bytes ≡ Some bytes
some_finish [] some = absurd (omega arith)
some_finish (byte ∷ bytes) some = refl

-- and only such DATA does
finish_some : (bytes found : List ℕ) → some_bytes bytes ≡ Some found → (bytes ≡ found) × (0 < length bytes)
finish_some [] found h = cc
finish_some (byte ∷ bytes) found h = (cc, omega arith)

-- a word that spells no byte ends it
pub word_ends : (d : Data) (word : List ℕ) → byte_of word ≡ None → hex_byte_of word ≡ None → bytes_eq word (codes "hex") ≡ false → data_step d word ≡ None
word_ends d word no_byte no_hex_byte no_hex =
    ap (λ b. cond (not d.is_hex && is_empty d.bytes && b) (Some no_hex_data) (option_map (with_byte d) (next_byte d word))) no_hex
    ∙ ap (λ b. cond b (Some no_hex_data) (option_map (with_byte d) (next_byte d word))) (and-false (not d.is_hex && is_empty d.bytes))
    ∙ ap (option_map (with_byte d)) (ap (λ o. cond (nat_lt (length d.bytes) 260) o None) (none d.is_hex) ∙ same_both (nat_lt (length d.bytes) 260) None)
  where
    none : (b : Bool) → spelled_byte b word ≡ None
    none true = no_hex_byte
    none false = no_byte

-- a word that spells a byte is not `hex`
byte_first : (d : Data) (word : List ℕ) (byte : ℕ) → spelled_byte d.is_hex word ≡ Some byte → begins_hex d word ≡ false
byte_first d word byte e = by (d.is_hex) e
  where
    by : (b : Bool) → spelled_byte b word ≡ Some byte → (not b && is_empty d.bytes && bytes_eq word (codes "hex")) ≡ false
    by true _ = refl
    by false spelled =
        elim (bytes_eq word (codes "hex")) as (λ t. bytes_eq word (codes "hex") ≡ t → (is_empty d.bytes && t) ≡ false) [
          | true ↦ λ t. let is : word ≡ codes "hex" = (bytes_eq-Decides word (codes "hex")).0 t in
              let none : byte_of (codes "hex") ≡ Some byte = subst (λ w. byte_of w ≡ Some byte) is spelled in cc
          | false ↦ λ _. and-false (is_empty d.bytes)
        ] refl

-- a byte is a step
byte_step : (d : Data) (word : List ℕ) (byte : ℕ) → length d.bytes < 260 → spelled_byte d.is_hex word ≡ Some byte → data_step d word ≡ Some (with_byte d byte)
byte_step d word byte room e =
    ap (λ b. cond b (Some no_hex_data) (option_map (with_byte d) (next_byte d word))) (byte_first d word byte e)
    ∙ ap (λ b. option_map (with_byte d) (cond b (spelled_byte d.is_hex word) None)) (lt-ltb (length d.bytes) 260 room)
    ∙ ap (option_map (with_byte d)) e

-- a step that is not `hex` is a byte
record ByteStep (d more : Data) (word : List ℕ) : Type 0 where
  byte : ℕ
  is : with_byte d byte ≡ more
  room : length d.bytes < 260
  spelled : spelled_byte d.is_hex word ≡ Some byte

step_byte : (d more : Data) (word : List ℕ) → begins_hex d word ≡ false → data_step d word ≡ Some more → ByteStep d more word
step_byte d more word no_hex h =
    by_room (subst (λ b. cond b (Some no_hex_data) (option_map (with_byte d) (next_byte d word)) ≡ Some more) no_hex h)
  where
    by_byte : (o : Option ℕ) → length d.bytes < 260 → spelled_byte d.is_hex word ≡ o → option_map (with_byte d) o ≡ Some more → ByteStep d more word
    by_byte None room e same = cc
    by_byte (Some byte) room e same = record { byte = byte; is = cc; room = room; spelled = e }

    by_room : option_map (with_byte d) (cond (nat_lt (length d.bytes) 260) (spelled_byte d.is_hex word) None) ≡ Some more → ByteStep d more word
    by_room h =
        elim (nat_lt (length d.bytes) 260) as (λ b. nat_lt (length d.bytes) 260 ≡ b → option_map (with_byte d) (cond b (spelled_byte d.is_hex word) None) ≡ Some more → ByteStep d more word) [
          | true ↦ λ t e. by_byte (spelled_byte d.is_hex word) (ltb-true (length d.bytes) 260 t) refl e
          | false ↦ λ _ e. cc
        ] refl h

-- bytes that are spelled are steps
pub bytes_steps : (d : Data) (words : List (List ℕ)) (bytes : List ℕ) → AreBytes (spelled_byte d.is_hex) words bytes → length d.bytes + length bytes ≤ 260 →
    Leads data_step d words (record d { bytes = d.bytes ++ bytes })
bytes_steps d [] [] h room = ap (λ all. record d { bytes = all }) (sym (append-nil d.bytes))
bytes_steps d [] (byte ∷ bytes) h room = absurd h
bytes_steps d (word ∷ words) [] h room = absurd h
bytes_steps d (word ∷ words) (byte ∷ bytes) h room = (
  with_byte d byte,
  byte_step d word byte (omega arith) h.0,
  subst (λ all. Leads data_step (with_byte d byte) words (record d { bytes = all })) (append_assoc d.bytes (byte ∷ []) bytes)
      (bytes_steps (with_byte d byte) words bytes h.1 (omega (arith, length-append d.bytes (byte ∷ [])))),
)

-- no byte is taken
pub takes_no_bytes : (spelled : List ℕ → Option ℕ) (at : Reading) → TakesBytes spelled at [] at
takes_no_bytes spelled at = record { front = []; are = tt; cut = refl; count = omega arith }

are_more : (spelled : List ℕ → Option ℕ) (words : List (List ℕ)) (bytes : List ℕ) (word : List ℕ) (byte : ℕ) → AreBytes spelled words bytes → spelled word ≡ Some byte → AreBytes spelled (words ++ word ∷ []) (bytes ++ byte ∷ [])
are_more spelled [] [] word byte h e = (e, tt)
are_more spelled [] (first ∷ bytes) word byte h e = absurd h
are_more spelled (first ∷ words) [] word byte h e = absurd h
are_more spelled (first ∷ words) (one ∷ bytes) word byte h e = (h.0, are_more spelled words bytes word byte h.1 e)

-- one byte more is taken
pub takes_more_bytes : (spelled : List ℕ → Option ℕ) (before at after : Reading) (bytes : List ℕ) (byte : ℕ) → TakesBytes spelled before bytes at → TakesByte spelled at byte after → TakesBytes spelled before (bytes ++ byte ∷ []) after
takes_more_bytes spelled before at after bytes byte it one = record {
  front = it.front ++ one.word ∷ [];
  are = are_more spelled it.front bytes one.word byte it.are one.is;
  cut = it.cut ∙ ap (λ rest. it.front ++ rest) one.taken.left ∙ sym (append_assoc it.front (one.word ∷ []) after.left);
  count = omega (arith, it.count, one.taken.count, length-append it.front (one.word ∷ []));
}

-- the words of bytes that are taken are steps
pub bytes_taken : (d : Data) (before after : Reading) (bytes : List ℕ) → TakesBytes (spelled_byte d.is_hex) before bytes after → length d.bytes + length bytes ≤ 260 →
    Takes data_step d before (record d { bytes = d.bytes ++ bytes }) after
bytes_taken d before after bytes it room = record { front = it.front; leads = bytes_steps d it.front bytes it.are room; cut = it.cut; count = it.count }

-- DATA that is spelled is read
pub data_leads : {words : List (List ℕ)} {bytes : List ℕ} → IsData words bytes → (end : Data) × Leads data_step no_data words end × (data_finish end ≡ Some bytes)
data_leads (plain {words} {bytes} it) = (
  record { is_hex = false; bytes = bytes },
  bytes_steps no_data words bytes it.bytewise (omega (arith, it.limit)),
  some_finish bytes it.some,
)
data_leads (hex {words} {bytes} it) = (
  record { is_hex = true; bytes = bytes },
  (no_hex_data, refl, bytes_steps no_hex_data words bytes it.bytewise (omega (arith, it.limit))),
  some_finish bytes it.some,
)

-- steps are bytes, if `hex` can't come
record BytesRead (d : Data) (words : List (List ℕ)) (end : Data) : Type 0 where
  bytes : List ℕ
  spelled : AreBytes (spelled_byte d.is_hex) words bytes
  all : end.bytes ≡ d.bytes ++ bytes
  limit : length end.bytes ≤ 260

no_hex_behind : (d : Data) (byte : ℕ) (word : List ℕ) → begins_hex (with_byte d byte) word ≡ false
no_hex_behind d byte word = ap (λ b. b && bytes_eq word (codes "hex")) (ap (λ b. not d.is_hex && b) (some_byte d.bytes) ∙ and-false (not d.is_hex))
  where
    some_byte : (bytes : List ℕ) → is_empty (bytes ++ byte ∷ []) ≡ false
    some_byte [] = refl
    some_byte (first ∷ bytes) = refl

-- one byte more
one_more : (d more : Data) (word : List ℕ) (words : List (List ℕ)) (end : Data) → ByteStep d more word → BytesRead more words end → BytesRead d (word ∷ words) end
one_more d more word words end step it = record {
  bytes = step.byte ∷ it.bytes;
  spelled = (step.spelled, subst (λ b. AreBytes (spelled_byte b) words it.bytes) (sym (ap (λ x. x.is_hex) step.is)) it.spelled);
  all = it.all ∙ ap (λ x. x.bytes ++ it.bytes) (sym step.is) ∙ append_assoc d.bytes (step.byte ∷ []) it.bytes;
  limit = it.limit;
}

steps_bytes : (d : Data) (words : List (List ℕ)) (end : Data) → ((word : List ℕ) → begins_hex d word ≡ false) → length d.bytes ≤ 260 → Leads data_step d words end → BytesRead d words end
steps_bytes d [] end no_hex room h = record {
  bytes = [];
  spelled = tt;
  all = ap (λ x. x.bytes) (sym h) ∙ sym (append-nil d.bytes);
  limit = subst (λ x. length x.bytes ≤ 260) h room;
}
steps_bytes d (word ∷ words) end no_hex room h =
    let step = step_byte d h.0 word (no_hex word) h.1 in
    let later : (word : List ℕ) → begins_hex h.0 word ≡ false = subst (λ x. (word : List ℕ) → begins_hex x word ≡ false) step.is (no_hex_behind d step.byte) in
    let fits : length (with_byte d step.byte).bytes ≤ 260 = omega (arith, step.room, length-append d.bytes (step.byte ∷ [])) in
    one_more d h.0 word words end step (steps_bytes h.0 words end later (subst (λ x. length x.bytes ≤ 260) step.is fits) h.2)

-- what is read is DATA
steps_data : (words : List (List ℕ)) (end : Data) → Leads data_step no_data words end → 0 < length end.bytes → IsData words end.bytes
steps_data [] end h some = absurd (omega (arith, subst (λ x. 0 < length x.bytes) (sym h) some))
steps_data (word ∷ words) end h some =
    elim (begins_hex no_data word) as (λ b. begins_hex no_data word ≡ b → IsData (word ∷ words) end.bytes) [
      | true ↦ λ t.
          let is : codes "hex" ≡ word = sym ((bytes_eq-Decides word (codes "hex")).0 t) in
          let there : no_hex_data ≡ h.0 = hex_there t h.1 in
          let it = steps_bytes h.0 words end (subst (λ x. (word : List ℕ) → begins_hex x word ≡ false) there (λ _. refl)) (subst (λ x. length x.bytes ≤ 260) there (omega arith)) h.2 in
          let all : it.bytes ≡ end.bytes = sym (it.all ∙ ap (λ x. x.bytes ++ it.bytes) (sym there)) in
          subst (λ first. IsData (first ∷ words) end.bytes) is
          (hex (record { bytewise = subst (λ x. AreBytes hex_byte_of words x) all (subst (λ x. AreBytes (spelled_byte x.is_hex) words it.bytes) (sym there) it.spelled); some = some; limit = it.limit }))
      | false ↦ λ t.
          let step = step_byte no_data h.0 word t h.1 in
          let later : (word : List ℕ) → begins_hex h.0 word ≡ false = subst (λ x. (word : List ℕ) → begins_hex x word ≡ false) step.is (no_hex_behind no_data step.byte) in
          let it = one_more no_data h.0 word words end step (steps_bytes h.0 words end later (subst (λ x. length x.bytes ≤ 260) step.is (omega arith)) h.2) in
          plain (record { bytewise = subst (λ x. AreBytes byte_of (word ∷ words) x) (sym it.all) it.spelled; some = some; limit = it.limit })
    ] refl
  where
    hex_there : begins_hex no_data word ≡ true → data_step no_data word ≡ Some h.0 → no_hex_data ≡ h.0
    hex_there t e = let first : Some no_hex_data ≡ Some h.0 = subst (λ b. cond b (Some no_hex_data) (option_map (with_byte no_data) (next_byte no_data word)) ≡ Some h.0) t e in cc

pub leads_data : (words : List (List ℕ)) (end : Data) (bytes : List ℕ) → Leads data_step no_data words end → data_finish end ≡ Some bytes → IsData words bytes
leads_data words end bytes h is = let (same, some) = finish_some end.bytes bytes is in subst (IsData words) same (steps_data words end h some)

-- a word that is no byte ends the bytes
pub word_over : (end : Data) (words : List (List ℕ)) → EndsData words → Ends data_step end words
word_over end [] ends = tt
word_over end (word ∷ words) ends = ends end

-- a byte completes DATA that has none
abbrev pub data_end : List ℕ → List (List ℕ)
data_end [] = codes "0" ∷ []
data_end (byte ∷ bytes) = []

bytes_complete : (is_hex : Bool) (bytes : List ℕ) → let d : Data = record { is_hex = is_hex; bytes = bytes } in
    (end : Data) × (found : List ℕ) × Leads data_step d (data_end bytes) end × (data_finish end ≡ Some found)
bytes_complete true [] = let d : Data = record { is_hex = true; bytes = 0 ∷ [] } in (d, 0 ∷ [], (d, refl, refl), refl)
bytes_complete false [] = let d : Data = record { is_hex = false; bytes = 0 ∷ [] } in (d, 0 ∷ [], (d, refl, refl), refl)
bytes_complete is_hex (byte ∷ bytes) = (record { is_hex = is_hex; bytes = byte ∷ bytes }, byte ∷ bytes, refl, refl)

pub data_completes : (d : Data) → (end : Data) × (found : List ℕ) × Leads data_step d (data_end d.bytes) end × (data_finish end ≡ Some found)
data_completes d = bytes_complete d.is_hex d.bytes
