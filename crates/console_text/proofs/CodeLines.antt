-- The lines of the instructions of a program.
use Rattle.std.proofs.Common.{◌≡◌, ℕ, ◌+◌, ◌*◌, ◌<◌, ◌≤◌, List, [], ◌∷◌, ◌++◌, drop, length, get_or, refl, sym, ◌∙◌, ap, subst, append_assoc, arith, add-one, Option}
use Rattle.std.specs.Prelude.{codes, decimal}
use Rattle.std.specs.List.{flat_map, concat}
use Rattle.std.specs.Io.KnownBytes.{Appends}
use Rattle.std.proofs.Math.Seq.{drop-cons}
use Rattle.bt_insn.specs.declared.insn.Insn.{Insn}
use Rattle.bt_insn.specs.declared.insn.Insn.TheVariants as i
use Rattle.bt_insn.specs.declared.fields.Fields.{Fields}
use Rattle.bt_insn.specs.Slot.{slot_bytes}
use Rattle.bt_insn.specs.Spelling.{spelling_of, second_slot}
use Rattle.bt_insn.specs.Table.{fields_of, slots_of}
use Rattle.console_text.specs.Text.{hex_of, spaced_hex_of, bytes_text, insn_text, code_text}
use Rattle.console_text.specs.Written.{WritesFront}
use Rattle.console_text.proofs.Writing.{Written, written_more, written_front}

spaced-append : (xs ys : List ℕ) → flat_map spaced_hex_of (xs ++ ys) ≡ flat_map spaced_hex_of xs ++ flat_map spaced_hex_of ys
spaced-append [] ys = refl
spaced-append (x ∷ xs) ys = ap (λ text. spaced_hex_of x ++ text) (spaced-append xs ys) ∙ sym (append_assoc (spaced_hex_of x) (flat_map spaced_hex_of xs) (flat_map spaced_hex_of ys))

bytes-append : (x : ℕ) (xs ys : List ℕ) → bytes_text ((x ∷ xs) ++ ys) ≡ bytes_text (x ∷ xs) ++ flat_map spaced_hex_of ys
bytes-append x xs ys = ap (λ text. hex_of x ++ text) (spaced-append xs ys)

-- a slot and the one after it
abbrev pub slots_text : ℕ → List ℕ → List ℕ → List ℕ
slots_text slot first second = concat (decimal slot ∷ codes ": " ∷ bytes_text first ∷ flat_map spaced_hex_of second ∷ codes "\n" ∷ [])

slot-append : (f : Fields) (ys : List ℕ) → bytes_text (slot_bytes f ++ ys) ≡ bytes_text (slot_bytes f) ++ flat_map spaced_hex_of ys
slot-append f ys = bytes-append f.opcode (drop 1 (slot_bytes f)) ys

insn-text : (slot : ℕ) (insn : Insn) → slots_text slot (slot_bytes (fields_of insn)) (second_slot insn) ≡ insn_text slot insn
unfolding spelling_of
insn-text slot insn =
    let first = bytes_text (slot_bytes (fields_of insn)) in
    let second = flat_map spaced_hex_of (second_slot insn) in
    ap (λ text. decimal slot ++ (58 ∷ 32 ∷ text)) (sym (append_assoc first second (10 ∷ [])) ∙ ap (λ text. text ++ 10 ∷ []) (sym (slot-append (fields_of insn) (second_slot insn))))

pub insn_line : (slot : ℕ) (insn : Insn) (first second : List ℕ) → first ≡ slot_bytes (fields_of insn) → second_slot insn ≡ second → slots_text slot first second ≡ insn_text slot insn
insn_line slot insn first second one two = ap (λ bytes. slots_text slot bytes second) one ∙ ap (slots_text slot (slot_bytes (fields_of insn))) (sym two) ∙ insn-text slot insn

code_first : (insns : List Insn) (slot i : ℕ) (d : Insn) → i < length insns → code_text slot (drop i insns) ≡ insn_text slot (get_or insns i d) ++ code_text (slot + slots_of (get_or insns i d)) (drop (i + 1) insns)
code_first insns slot i d h = ap (code_text slot) (drop-cons insns i d h) ∙ rw add-one refl

pub slots_few : (insn : Insn) → slots_of insn ≤ 2
slots_few (i.LoadImmediate dst value) = omega arith
slots_few (i.LoadMap dst id) = omega arith
slots_few _ = omega arith

-- so far the lines of the instructions at the front are written
pub record Listed (old new : Option (List ℕ)) (insns : List Insn) (slot i : ℕ) : Type 0 where
  pub written : Written old new (code_text 0 insns) (code_text slot (drop i insns))
  pub few : slot ≤ 2 * i

pub listed_more : (old mid new : Option (List ℕ)) (insns : List Insn) (slot i : ℕ) (d : Insn) → i < length insns → Listed old mid insns slot i → Appends mid new (insn_text slot (get_or insns i d)) → Listed old new insns (slot + slots_of (get_or insns i d)) (i + 1)
listed_more old mid new insns slot i d below it h = record {
  written = written_more old mid new (code_text 0 insns) (insn_text slot (get_or insns i d)) _ (subst (λ text. Written old mid (code_text 0 insns) text) (code_first insns slot i d below) it.written) h;
  few = let two = slots_few (get_or insns i d) in omega (arith, it.few, two);
}

pub listed_front : (old mid new : Option (List ℕ)) (insns : List Insn) (slot i : ℕ) (d : Insn) → i < length insns → Listed old mid insns slot i → WritesFront mid new (insn_text slot (get_or insns i d)) → WritesFront old new (code_text 0 insns)
listed_front old mid new insns slot i d below it h =
    written_front old mid new (code_text 0 insns) (insn_text slot (get_or insns i d)) (code_text (slot + slots_of (get_or insns i d)) (drop (i + 1) insns))
    (subst (λ text. Written old mid (code_text 0 insns) text) (code_first insns slot i d below) it.written) h
