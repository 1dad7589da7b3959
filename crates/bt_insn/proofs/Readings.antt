-- Bytes are read in one way.
use Rattle.std.proofs.Common.{◌≡◌, ℕ, ◌+◌, ◌*◌, ◌%◌, ◌≤◌, List, [], ◌∷◌, ◌++◌, length, take, Result, Ok, Err, refl, sym, ap, subst, ◌∙◌, append_assoc, arith}
use Rattle.std.specs.Global.{Vec}
use Rattle.std.specs.Prelude.{MatchResult, IfOk, IfErr}
use Rattle.std.specs.List.{AllByRecursion}
use Rattle.std.proofs.lemmas.List.{append-nil, length-append}
use Rattle.std.proofs.lemmas.List.Concat.{flat_map-append}
use Rattle.std.proofs.lemmas.List.Sums.{sum_by-append, sum_by-cons}
use Rattle.bt_insn.specs.declared.fault.DecodeFault.{DecodeFault}
use Rattle.bt_insn.specs.declared.fault.DecodeFault.TheVariants.{BadLength, TooLong, BadOpcode, BadField, HalfWide, NoMemory}
use Rattle.bt_insn.specs.declared.insn.Insn.{Insn}
use Rattle.bt_insn.specs.Slot.{slot_bytes}
use Rattle.bt_insn.specs.Table.{Fits, fields_of, slots_of}
use Rattle.bt_insn.specs.Spelling.{spelling_of, spelling, slots_in}
use Rattle.bt_insn.specs.Grammar.{ReadsAs, IsOpcode, BeginsWith, IsHalf, HasOpcode, FaultAt, StopsWith, IsFault}
use Rattle.bt_insn.proofs.Forms.{spelling-length, fits_slot, first_tells, same_slots, one_form}

-- ---- one more instruction at the end

pub fits_push : (read : List Insn) (v : Insn) → AllByRecursion Fits read → Fits v → AllByRecursion Fits (read ++ v ∷ [])
fits_push [] v all fits = (fits, tt)
fits_push (x ∷ read) v all fits = (all.0, fits_push read v all.1 fits)

pub slots_push : (read : List Insn) (v : Insn) → slots_in (read ++ v ∷ []) ≡ slots_in read + slots_of v
slots_push read v = sum_by-append slots_of read (v ∷ []) ∙ omega arith

pub spelling_push : (read : List Insn) (v : Insn) → spelling (read ++ v ∷ []) ≡ spelling read ++ spelling_of v
spelling_push read v = flat_map-append spelling_of read (v ∷ []) ∙ ap (λ (s : List ℕ). spelling read ++ s) (append-nil (spelling_of v))

pub goes_on : (bytes : List ℕ) (read : List Insn) (v : Insn) (rest after : List ℕ)
    → bytes ≡ spelling read ++ rest → rest ≡ spelling_of v ++ after
    → bytes ≡ spelling (read ++ v ∷ []) ++ after
goes_on bytes read v rest after parts front =
    parts ∙ ap (λ (s : List ℕ). spelling read ++ s) front ∙ sym (append_assoc (spelling read) (spelling_of v) after) ∙ ap (λ (s : List ℕ). s ++ after) (sym (spelling_push read v))

-- ---- where reading stops

-- no instruction begins these bytes
abbrev pub IsEnd : List ℕ → Type 0
IsEnd bytes = (v : Insn) → BeginsWith bytes v → ⊥

some_spelling : (v : Insn) (rest : List ℕ) → [] ≡ spelling_of v ++ rest → ⊥
unfolding spelling_of
some_spelling v rest e = absurd cc

nothing_ends : IsEnd []
nothing_ends v begins = some_spelling v begins.rest begins.parts

-- Two readings of the same bytes that both go as far as they can are one.
pub same_reading : (a b : List Insn) (x y : List ℕ) → AllByRecursion Fits a → AllByRecursion Fits b → IsEnd x
    → IsEnd y → spelling a ++ x ≡ spelling b ++ y → (a ≡ b) × (x ≡ y)
same_reading [] [] x y p q h k e = (refl, e)
same_reading [] (w ∷ b) x y p q h k e =
    absurd (h w (record { rest = spelling b ++ y; fits = q.0; parts = e ∙ append_assoc (spelling_of w) (spelling b) y }))
same_reading (v ∷ a) [] x y p q h k e =
    absurd (k v (record { rest = spelling a ++ x; fits = p.0; parts = sym e ∙ append_assoc (spelling_of v) (spelling a) x }))
same_reading (v ∷ a) (w ∷ b) x y p q h k e =
    let one = one_form v w (spelling a ++ x) (spelling b ++ y) p.0 q.0 (sym (append_assoc (spelling_of v) (spelling a) x) ∙ e ∙ append_assoc (spelling_of w) (spelling b) y) in
    let others = same_reading a b x y p.1 q.1 h k one.1 in
    (ap (λ (u : Insn). u ∷ a) one.0 ∙ ap (λ (us : List Insn). w ∷ us) others.0, others.1)

pub one_reading : (bytes : List ℕ) (a b : List Insn) → ReadsAs bytes a → ReadsAs bytes b → a ≡ b
one_reading bytes a b p q =
    (same_reading a b [] [] p.fits q.fits nothing_ends nothing_ends
    (append-nil (spelling a) ∙ sym p.spelled ∙ q.spelled ∙ sym (append-nil (spelling b)))).0

-- ---- a fault is at bytes that no instruction begins

opcode_ends : (bytes : List ℕ) (opcode : ℕ) → HasOpcode bytes opcode → (IsOpcode opcode → ⊥) → IsEnd bytes
unfolding spelling_of
opcode_ends bytes opcode has none v begins =
    let same : (fields_of v).opcode ∷ _ ≡ opcode ∷ has.others = sym begins.parts ∙ has.parts in
    none (v, cc)

half_ends : (bytes : List ℕ) → IsHalf bytes → IsEnd bytes
half_ends bytes half v begins =
    let front : take 8 bytes ≡ slot_bytes (fields_of half.insn) = ap (λ (s : List ℕ). take 8 s) half.first in
    let same = first_tells v (fields_of half.insn) bytes begins.rest begins.fits (fits_slot half.insn half.fits) front begins.parts in
    let two : slots_of v ≡ 2 = same_slots v half.insn same ∙ half.wide in
    let short : length bytes ≡ 8 = ap (λ (s : List ℕ). length s) half.first in
    let long : length bytes ≡ length (spelling_of v) + length begins.rest = ap (λ (s : List ℕ). length s) begins.parts ∙ length-append (spelling_of v) begins.rest in
    let whole = spelling-length v in
    omega arith

pub fault_ends : (bytes : List ℕ) (slot : ℕ) (e : DecodeFault) → FaultAt bytes slot e → IsEnd bytes
fault_ends bytes slot (BadOpcode i) h = opcode_ends bytes h.1.opcode h.1.first h.1.illegal
fault_ends bytes slot (HalfWide i) h = half_ends bytes h.1
fault_ends bytes slot (BadField i) h = h.1.no_insn
fault_ends bytes slot BadLength h = absurd h
fault_ends bytes slot TooLong h = absurd h
fault_ends bytes slot NoMemory h = absurd h

-- and there are such bytes
first_byte : (bytes : List ℕ) (opcode : ℕ) → [] ≡ bytes → HasOpcode bytes opcode → ⊥
first_byte bytes opcode nothing has = let e : [] ≡ opcode ∷ has.others = nothing ∙ has.parts in cc

fault_is_within : (bytes : List ℕ) (slot : ℕ) (e : DecodeFault) → FaultAt bytes slot e → [] ≡ bytes → ⊥
fault_is_within bytes slot (BadOpcode i) h nothing = first_byte bytes h.1.opcode nothing h.1.first
fault_is_within bytes slot (HalfWide i) h nothing = let e : [] ≡ slot_bytes (fields_of h.1.insn) = nothing ∙ h.1.first in cc
fault_is_within bytes slot (BadField i) h nothing = first_byte bytes h.1.opcode nothing h.1.first
fault_is_within bytes slot BadLength h nothing = h
fault_is_within bytes slot TooLong h nothing = h
fault_is_within bytes slot NoMemory h nothing = h

-- ---- bytes that spell instructions have no fault

pub length-spelling : (insns : List Insn) → length (spelling insns) ≡ 8 * slots_in insns
length-spelling [] = refl
length-spelling (v ∷ insns) =
    let others = length-spelling insns in
    let one = spelling-length v in
    let all = sum_by-cons slots_of v insns in
    length-append (spelling_of v) (spelling insns) ∙ omega arith

reading_ends : (bytes : List ℕ) (insns : List Insn) (e : DecodeFault) → ReadsAs bytes insns → StopsWith bytes e → ⊥
reading_ends bytes insns e reads stops =
    let both = same_reading insns stops.read [] stops.rest reads.fits stops.fits nothing_ends (fault_ends stops.rest (slots_in stops.read) e stops.here)
    (append-nil (spelling insns) ∙ sym reads.spelled ∙ stops.parts) in
    fault_is_within stops.rest (slots_in stops.read) e stops.here both.1

pub no_fault : (bytes : List ℕ) (insns : List Insn) (e : DecodeFault) → ReadsAs bytes insns → IsFault bytes e
    → e ≡ NoMemory
no_fault bytes insns BadLength reads fault =
    let len : length bytes ≡ 8 * slots_in insns = ap (λ (s : List ℕ). length s) reads.spelled ∙ length-spelling insns in
    absurd (fault (omega arith))
no_fault bytes insns TooLong reads fault =
    let len : length bytes ≡ 8 * slots_in insns = ap (λ (s : List ℕ). length s) reads.spelled ∙ length-spelling insns in
    absurd (omega (arith, reads.few, fault.1))
no_fault bytes insns NoMemory reads fault = refl
no_fault bytes insns (BadOpcode i) reads fault = absurd (reading_ends bytes insns (BadOpcode i) reads fault.2)
no_fault bytes insns (BadField i) reads fault = absurd (reading_ends bytes insns (BadField i) reads fault.2)
no_fault bytes insns (HalfWide i) reads fault = absurd (reading_ends bytes insns (HalfWide i) reads fault.2)

-- what is read is the one reading
pub only_reading : (bytes : List ℕ) (insns : List Insn) (r : Result (Vec Insn) DecodeFault)
    → IfOk r (λ v. ReadsAs bytes v.items) → IfErr r (IsFault bytes) → ReadsAs bytes insns
    → MatchResult r (λ v. v.items ≡ insns) (λ e. e ≡ NoMemory)
only_reading bytes insns (Ok v) found fault reads = one_reading bytes v.items insns found reads
only_reading bytes insns (Err e) found fault reads = no_fault bytes insns e reads fault

-- ---- the loop

pub front_within : (bytes after : List ℕ) (v : Insn) → bytes ≡ spelling_of v ++ after → 8 * slots_of v ≤ length bytes
front_within bytes after v parts =
    let one = spelling-length v in
    let all : length bytes ≡ length (spelling_of v) + length after = ap (λ (s : List ℕ). length s) parts ∙ length-append (spelling_of v) after in
    omega arith

-- a fault at what is left is the first one
pub stops_with : (bytes rest : List ℕ) (read : List Insn) (slot : ℕ) (e : DecodeFault) → length bytes % 8 ≡ 0
    → length bytes ≤ 8 * 4096 → AllByRecursion Fits read → bytes ≡ spelling read ++ rest
    → slots_in read ≡ slot
    → FaultAt rest slot e → IsFault bytes e
stops_with bytes rest read slot BadLength whole few fits parts slots here = absurd here
stops_with bytes rest read slot TooLong whole few fits parts slots here = absurd here
stops_with bytes rest read slot NoMemory whole few fits parts slots here = tt
stops_with bytes rest read slot (BadOpcode i) whole few fits parts slots here =
    (whole, few, record { read = read; rest = rest; fits = fits; parts = parts; here = subst (λ (n : ℕ). FaultAt rest n (BadOpcode i)) (sym slots) here })
stops_with bytes rest read slot (BadField i) whole few fits parts slots here =
    (whole, few, record { read = read; rest = rest; fits = fits; parts = parts; here = subst (λ (n : ℕ). FaultAt rest n (BadField i)) (sym slots) here })
stops_with bytes rest read slot (HalfWide i) whole few fits parts slots here =
    (whole, few, record { read = read; rest = rest; fits = fits; parts = parts; here = subst (λ (n : ℕ). FaultAt rest n (HalfWide i)) (sym slots) here })
