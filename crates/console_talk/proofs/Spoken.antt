-- Lines of a talk, one after the other.
use Rattle.std.proofs.Common.{◌≡◌, ◌⊎◌, inl, inr, ℕ, ◌<◌, ◌≤◌, ◌+◌, ◌==◌, ◌&&◌, Bool, true, false, cond, List, [], ◌∷◌, ◌++◌, length, take, refl, sym, ◌∙◌, ap, subst, arith, Option, Some, None, Result, Ok, Err}
use Rattle.std.specs.Prelude.{⊤, IfOk, OnOk, IsTrue, ◌↔◌, option_map, if◌then◌else◌}
use Rattle.std.specs.Option.{IfSome}
use Rattle.std.specs.List.{onto_first}
use Rattle.std.specs.Io.BufRead.{take_through, drop_through, DropsThrough}
use Rattle.std.specs.Io.Buffered.{reader_buffer, reader_capacity, reader_inner, reader_remaining}
use Rattle.std.specs.Io.KnownBytes.{Keeps, prepend_known}
use Rattle.std.proofs.KnownBytes.{Appends-kept}
use Rattle.std.specs.Io.Take.{take_inner, take_limit, take_remaining}
use Rattle.std.specs.declared.io.buffered.BufReader.{BufReader}
use Rattle.std.specs.declared.io.traits.Take.{Take}
use Rattle.std.proofs.Math.Bool.{and-false}
use Rattle.std.proofs.lemmas.List.{length-take}
use Rattle.bt_mapkind.specs.declared.attr.MapAttr.{MapAttr}
use Rattle.bt_mapkind.specs.Seen.{Seen}
use Rattle.journal_model.specs.Book.{PlainBook}
use Rattle.console_operand.specs.Line.{lines_of, begins_lf}
use Rattle.console_operand.specs.Word.{FirstIsNot}
use Rattle.bt_syntax.specs.declared.files.FileText.{FileText}
use Rattle.console_answer.specs.declared.mishap.Mishap.{Mishap}
use Rattle.console_script.specs.NoBox.{NoBox}
use Rattle.console_script.specs.declared.summary.Summary.{Summary}
use Rattle.console_script.specs.Running.{LeadsOn}
use Rattle.console_script.specs.Supplied.{AreSupplied}
use Rattle.console_script.specs.Transcript.{Session, Step, transcript}
use Rattle.console_input.specs.declared.source.TheConstants.{MOST_SCRIPT}
use Rattle.console_looks.specs.declared.look.Look.{Look}
use Rattle.console_talk.specs.declared.manner.Manner.{Manner}
use Rattle.console_talk.specs.declared.manner.Manner.TheVariants.{Script, Dialogue}
use Rattle.console_talk.specs.Talk.{Said, said, Standing, Place, place, silent, before, behind, HasFirst, Asks, looks, TellsLook, IsAnswered, Goes, GoesAt, AllGo, lines_then, Gave, Ends, HasComeTo, HasCome, MayStopAt, MayStop, TookAtMost, Talked, with_boxes, front, IsWhole}

-- ---- the first line of a text is that of its bytes through the first line feed
lines_lf : (byte : ℕ) (text : List ℕ) → (byte == 10) ≡ true → lines_of (byte ∷ text) ≡ [] ∷ lines_of text
lines_lf byte text lf = ap (λ b. cond b ([] ∷ lines_of text) (cond ((byte == 13) && begins_lf text) (lines_of text) (onto_first byte (lines_of text)))) lf

lines_other : (byte : ℕ) (text : List ℕ) → (byte == 10) ≡ false → lines_of (byte ∷ text) ≡ cond ((byte == 13) && begins_lf text) (lines_of text) (onto_first byte (lines_of text))
lines_other byte text other = ap (λ b. cond b ([] ∷ lines_of text) (cond ((byte == 13) && begins_lf text) (lines_of text) (onto_first byte (lines_of text)))) other

take_lf : (byte : ℕ) (text : List ℕ) → (byte == 10) ≡ true → take_through 10 (byte ∷ text) ≡ byte ∷ []
take_lf byte text lf = ap (λ b. cond b (byte ∷ []) (byte ∷ take_through 10 text)) lf

take_other : (byte : ℕ) (text : List ℕ) → (byte == 10) ≡ false → take_through 10 (byte ∷ text) ≡ byte ∷ take_through 10 text
take_other byte text other = ap (λ b. cond b (byte ∷ []) (byte ∷ take_through 10 text)) other

drop_lf : (byte : ℕ) (text : List ℕ) → (byte == 10) ≡ true → drop_through 10 (byte ∷ text) ≡ text
drop_lf byte text lf = ap (λ b. cond b text (drop_through 10 text)) lf

drop_other : (byte : ℕ) (text : List ℕ) → (byte == 10) ≡ false → drop_through 10 (byte ∷ text) ≡ drop_through 10 text
drop_other byte text other = ap (λ b. cond b text (drop_through 10 text)) other

begins_through : (text : List ℕ) → begins_lf (take_through 10 text) ≡ begins_lf text
begins_through [] = refl
begins_through (byte ∷ text) = elim (byte == 10) as (λ b. (byte == 10) ≡ b → begins_lf (take_through 10 (byte ∷ text)) ≡ (byte == 10)) [
  | true ↦ λ lf. ap begins_lf (take_lf byte text lf)
  | false ↦ λ other. ap begins_lf (take_other byte text other)
] refl

-- a text that has a byte has a first line, which is the only one of its front
abbrev FirstCut : List ℕ → Type 0
FirstCut text = (line : List ℕ) × ((lines_of (take_through 10 text) ≡ line ∷ []) × (lines_of text ≡ line ∷ lines_of (drop_through 10 text)))

cut_at_lf : (byte : ℕ) (text : List ℕ) → (byte == 10) ≡ true → FirstCut (byte ∷ text)
cut_at_lf byte text lf = ([], (ap lines_of (take_lf byte text lf) ∙ lines_lf byte [] lf, lines_lf byte text lf ∙ sym (ap (λ (t : List ℕ). [] ∷ lines_of t) (drop_lf byte text lf))))

cut_alone : (byte : ℕ) → (byte == 10) ≡ false → FirstCut (byte ∷ [])
cut_alone byte other = (
  byte ∷ [],
  (
    ap lines_of (take_other byte [] other) ∙ lines_other byte [] other ∙ ap (λ b. cond b [] ((byte ∷ []) ∷ [])) (and-false (byte == 13)),
    lines_other byte [] other ∙ ap (λ b. cond b [] ((byte ∷ []) ∷ [])) (and-false (byte == 13)) ∙ sym (ap (λ (t : List ℕ). (byte ∷ []) ∷ lines_of t) (drop_other byte [] other)),
  ),
)

cut_behind : (byte next : ℕ) (text : List ℕ) → (byte == 10) ≡ false → FirstCut (next ∷ text) → FirstCut (byte ∷ next ∷ text)
cut_behind byte next text other deeper =
    let front = take_through 10 (next ∷ text) in
    let same = begins_through (next ∷ text) in
    let dropped = sym (ap lines_of (drop_other byte (next ∷ text) other)) in
    elim ((byte == 13) && begins_lf (next ∷ text)) as (λ b. ((byte == 13) && begins_lf (next ∷ text)) ≡ b → FirstCut (byte ∷ next ∷ text)) [
      | true ↦ λ cr. (
        deeper.0,
        (
          ap lines_of (take_other byte (next ∷ text) other) ∙ lines_other byte front other
              ∙ ap (λ b. cond b (lines_of front) (onto_first byte (lines_of front))) (ap (λ b. (byte == 13) && b) same ∙ cr) ∙ deeper.1.0,
          lines_other byte (next ∷ text) other ∙ ap (λ b. cond b (lines_of (next ∷ text)) (onto_first byte (lines_of (next ∷ text)))) cr ∙ deeper.1.1 ∙ ap (λ ls. deeper.0 ∷ ls) dropped,
        ),
      )
      | false ↦ λ no_cr. (
        byte ∷ deeper.0,
        (
          ap lines_of (take_other byte (next ∷ text) other) ∙ lines_other byte front other
              ∙ ap (λ b. cond b (lines_of front) (onto_first byte (lines_of front))) (ap (λ b. (byte == 13) && b) same ∙ no_cr) ∙ ap (onto_first byte) deeper.1.0,
          lines_other byte (next ∷ text) other ∙ ap (λ b. cond b (lines_of (next ∷ text)) (onto_first byte (lines_of (next ∷ text)))) no_cr
              ∙ ap (onto_first byte) deeper.1.1 ∙ ap (λ ls. (byte ∷ deeper.0) ∷ ls) dropped,
        ),
      )
    ] refl

first_cut : (byte : ℕ) (text : List ℕ) → FirstCut (byte ∷ text)
first_cut byte [] = elim (byte == 10) as (λ b. (byte == 10) ≡ b → FirstCut (byte ∷ [])) [ true ↦ λ lf. cut_at_lf byte [] lf | false ↦ λ other. cut_alone byte other ] refl
first_cut byte (next ∷ text) =
    let deeper = first_cut next text in
    elim (byte == 10) as (λ b. (byte == 10) ≡ b → FirstCut (byte ∷ next ∷ text)) [
      | true ↦ λ lf. cut_at_lf byte (next ∷ text) lf
      | false ↦ λ other. cut_behind byte next text other deeper
    ] refl

-- the line that was read is the first of what was left
pub first_read : (text given line : List ℕ) (after : List ℕ) → given ≡ take_through 10 text → 0 < length given → lines_of given ≡ line ∷ lines_of after → lines_of text ≡ line ∷ lines_of (drop_through 10 text)
first_read [] given line after is some cut = absurd (let none : length given ≡ 0 = ap length is in omega arith)
first_read (byte ∷ text) given line after is some cut =
    let first = first_cut byte text in
    let same : line ≡ first.0 = let e = sym cut ∙ ap lines_of is ∙ first.1.0 in cc in
    first.1.1 ∙ sym (ap (λ l. l ∷ lines_of (drop_through 10 (byte ∷ text))) same)

-- ---- what a test of a line says
pub some_given : (given : List ℕ) → (length given == 0) ≡ false → 0 < length given
some_given [] e = absurd (let empty : (length {A = ℕ} [] == 0) ≡ true = refl in cc (sym empty ∙ e))
some_given (byte ∷ given) e = omega arith

pub goes_on : (answer : Bool) (ends : Type 0) → (IsTrue answer ↔ ends) → answer ≡ false → ¬ ends
goes_on answer ends says fails end = let holds : IsTrue answer = says.1 end in absurd (cc (sym holds ∙ fails))

-- what follows a word that is the first one, and that none is if it is not
pub begins_so : (line : List (List ℕ)) (word : List ℕ) (rest : List (List ℕ)) → line ≡ word ∷ rest → IsTrue true ↔ HasFirst line word
begins_so line word rest is = ((λ _. (rest, is)), (λ _. refl))

pub begins_not : (line : List (List ℕ)) (word : List ℕ) → FirstIsNot line word → IsTrue false ↔ HasFirst line word
begins_not line word not_first = ((λ holds. absurd (let e : false ≡ true = holds in cc)), (λ first. absurd (not_first first.0 first.1)))

-- if the first of two tests holds, and if it fails and the second is asked
pub holds_first : (first : Bool) (P Q : Type 0) → (IsTrue first ↔ P) → first ≡ true → IsTrue true ↔ (P ⊎ Q)
holds_first first P Q says holds = ((λ _. inl (says.0 holds)), (λ _. refl))

pub asks_second : (first second : Bool) (P Q : Type 0) → (IsTrue first ↔ P) → (IsTrue second ↔ Q) → first ≡ false → IsTrue second ↔ (P ⊎ Q)
asks_second first second P Q says also fails = (
  (λ holds. inr (also.0 holds)),
  (λ either. elim either [ inl p ↦ absurd (cc (sym (says.1 p) ∙ fails)) | inr q ↦ also.1 q ]),
)

pub ends_so : (answer : Bool) (ends : Type 0) → (IsTrue answer ↔ ends) → answer ≡ true → ends
ends_so answer ends says holds = says.0 holds

-- ---- what is left of an input
pub gave_none : (input : Option (List ℕ)) → Gave input [] input
gave_none None = tt
gave_none (Some text) = refl

pub gave_more : (input left next : Option (List ℕ)) (said : List Said) (it : Said) (given after : List ℕ) → Gave input said left → IfSome left (λ text. given ≡ take_through 10 text) → DropsThrough left next 10 → 0 < length given
    → lines_of given ≡ it.line ∷ lines_of after → Gave input (it ∷ said) next
gave_more None left next said it given after gave read drops some cut = tt
gave_more (Some text) None next said it given after gave read drops some cut = absurd gave
gave_more (Some text) (Some left) next said it given after gave read drops some cut =
    subst (Gave (Some text) (it ∷ said)) (sym drops) (gave ∙ ap (lines_then said) (first_read left given it.line after read some cut))

-- nothing was read, so nothing is left; or the line that was read ends the talk
pub stops_at_end : (manner : Manner) (left : Option (List ℕ)) (given : List ℕ) → IfSome left (λ text. given ≡ take_through 10 text) → given ≡ [] → MayStop manner left
stops_at_end manner None given read none = tt
stops_at_end manner (Some []) given read none = tt
stops_at_end manner (Some (byte ∷ text)) given read none = elim (byte == 10) as (λ b. (byte == 10) ≡ b → MayStop manner (Some (byte ∷ text))) [
  | true ↦ λ lf. absurd (cc (sym none ∙ read ∙ take_lf byte text lf))
  | false ↦ λ other. absurd (cc (sym none ∙ read ∙ take_other byte text other))
] refl

pub stops_at_line : (manner : Manner) (left : Option (List ℕ)) (given line after : List ℕ) → IfSome left (λ text. given ≡ take_through 10 text) → 0 < length given → lines_of given ≡ line ∷ lines_of after → Ends manner line
    → MayStop manner left
stops_at_line manner None given line after read some cut ends = tt
stops_at_line manner (Some text) given line after read some cut ends =
    let is = first_read text given line after read some cut in
    subst (MayStopAt manner) (sym is) ends

-- ---- how many bytes were taken
cut_length : (text : List ℕ) → length text ≡ length (take_through 10 text) + length (drop_through 10 text)
cut_length [] = refl
cut_length (byte ∷ text) = elim (byte == 10) as (λ b. (byte == 10) ≡ b → length (byte ∷ text) ≡ length (take_through 10 (byte ∷ text)) + length (drop_through 10 (byte ∷ text))) [
  | true ↦ λ lf.
      let taken = ap length (take_lf byte text lf) in
      let dropped = ap length (drop_lf byte text lf) in
      omega (arith, taken, dropped)
  | false ↦ λ other.
      let taken = ap length (take_other byte text other) in
      let dropped = ap length (drop_other byte text other) in
      let deeper = cut_length text in
      omega (arith, taken, dropped, deeper)
] refl

-- of an input so many bytes may still be taken
abbrev pub StillTakes : Option (List ℕ) → Option (List ℕ) → ℕ → Type 0
StillTakes None left still = ⊤
StillTakes (Some text) None still = ⊥
StillTakes (Some text) (Some left) still = length text + still ≤ length left + MOST_SCRIPT

pub takes_none : (input : Option (List ℕ)) → StillTakes input input MOST_SCRIPT
takes_none None = tt
takes_none (Some text) = omega arith

pub takes_more : (input left next : Option (List ℕ)) (given : List ℕ) (still then_still : ℕ) → StillTakes input left still → IfSome left (λ text. given ≡ take_through 10 text) → DropsThrough left next 10
    → length given + then_still ≡ still → StillTakes input next then_still
takes_more None left next given still then_still takes read drops counts = tt
takes_more (Some text) None next given still then_still takes read drops counts = absurd takes
takes_more (Some text) (Some left) next given still then_still takes read drops counts =
    let cut : length left ≡ length given + length (drop_through 10 left) = subst (λ (front : List ℕ). length left ≡ length front + length (drop_through 10 left)) (sym read) (cut_length left) in
    let enough : length text + then_still ≤ length (drop_through 10 left) + MOST_SCRIPT = omega (arith, takes, counts, cut) in
    subst (λ (rest : Option (List ℕ)). StillTakes (Some text) rest then_still) (sym drops) enough

pub took : (input left : Option (List ℕ)) (still : ℕ) → StillTakes input left still → TookAtMost MOST_SCRIPT input left
took None left still takes = tt
took (Some text) None still takes = absurd takes
took (Some text) (Some left) still takes = omega (arith, takes)

-- ---- lines that go one after the other
-- one more
pub come_on : {P : Type 0} (goes : Said → P → P → Type 0) (manner : Manner) (input : Option (List ℕ)) (from : P) (left next : Option (List ℕ)) (mid to : P) (it : Said) (given after : List ℕ) → HasComeTo goes manner input from left mid
    → IfSome left (λ text. given ≡ take_through 10 text) → DropsThrough left next 10 → 0 < length given → lines_of given ≡ it.line ∷ lines_of after → ¬ (Ends manner it.line) → goes it mid to → HasComeTo goes manner input from next to
come_on goes manner input from left next mid to it given after come read drops some cut goes_on went = record {
  said = it ∷ come.said;
  went = record { mid = mid; earlier = come.went; last = went };
  gave = gave_more input left next come.said it given after come.gave read drops some cut;
  none_ends = (goes_on, come.none_ends);
}

-- if each that goes one way goes another way too, from and to what stands for its places, so do all
module _ {P Q : Type 0} (goes : Said → P → P → Type 0) (other : Said → Q → Q → Type 0) (f : P → Q) (implies : (it : Said) (from to : P) → goes it from to → other it (f from) (f to)) where
  all_go_by : (said : List Said) (from to : P) → AllGo goes said from to → AllGo other said (f from) (f to)
  all_go_by [] from to it = ap f it
  all_go_by (last ∷ earlier) from to it = record { mid = f it.mid; earlier = all_go_by earlier from it.mid it.earlier; last = implies last it.mid to it.last }

  pub come_by : (manner : Manner) (input : Option (List ℕ)) (from : P) (left : Option (List ℕ)) (to : P) → HasComeTo goes manner input from left to → HasComeTo other manner input (f from) left (f to)
  come_by manner input from left to it = record { said = it.said; went = all_go_by it.said from to it.went; gave = it.gave; none_ends = it.none_ends }

-- ---- a line more
-- steps after which nothing more was written
pub leads_kept : {S K : Type 0} (gives : S → MapAttr → Result K NoBox → S → Type 0) (seen : K → Seen) (files : List FileText) {a : Option Mishap} (from to : S) (s end : Session) (old mid new : Option (List ℕ))
    → LeadsOn gives seen files from s old to end mid a → Keeps mid new → LeadsOn gives seen files from s old to end new a
leads_kept gives seen files from to s end old mid new it kept = record {
  run = it.run;
  boxes = it.boxes;
  right = it.right;
  wrote = Appends-kept old mid new (transcript files s it.run) it.wrote kept;
  is = it.is;
  wrong = it.wrong;
}

module _ {S K : Type 0} (gives : S → MapAttr → Result K NoBox → S → Type 0) (seen : K → Seen) (named : List ℕ → List FileText → Type 0) where
  pub come_none : (manner : Manner) (input : Option (List ℕ)) (b : PlainBook) (from : S) (old : Option (List ℕ)) → HasCome (AreSupplied gives seen) named manner input b from old input from (silent b) old
  come_none manner input b from old = record { said = []; went = refl; gave = gave_none input; none_ends = tt }

  pub answered_by : {a : Option Mishap} (it : Said) (from to : S) (at end : Standing) (old new : Option (List ℕ)) → named it.line it.files → LeadsOn gives seen it.files from (before at it.line) old to (behind end) new a
      → IsAnswered (AreSupplied gives seen) named it from at old to end new
  answered_by it from to at end old new files leads = record { files = files; run = leads.run; boxes = leads.boxes; right = leads.right; written = leads.wrote; is = leads.is }

  -- a line that asks for no help and no look goes as it is answered
  pub heard : {E : Type 0} (manner : Manner) (line : List ℕ) (from to : S) (at end : Standing) (old new : Option (List ℕ)) (result : Result (Unit {0}) E) → ¬ (Asks manner line) → looks manner line ≡ None
      → IfOk result (λ _. (files : List FileText) × IsAnswered (AreSupplied gives seen) named (said line files) from at old to end new)
      → IfOk result (λ _. (files : List FileText) × Goes (AreSupplied gives seen) named manner (said line files) from at old to end new)
  heard manner line from to at end old new (Ok done) asks_not looks_not it = (it.0, inr (inr (record { asks_not = asks_not; looks_not = looks_not; answered = it.1 })))
  heard manner line from to at end old new (Err fault) asks_not looks_not it = tt

  -- a line that asks for a look goes as that is told
  pub looked : {E : Type 0} (manner : Manner) (line : List ℕ) (look : Look) (from : S) (at end : Standing) (old new : Option (List ℕ)) (result : Result (Unit {0}) E) → ¬ (Asks manner line) → looks manner line ≡ Some look → end ≡ at
      → OnOk result (TellsLook look at.console.book old new) → IfOk result (λ _. (files : List FileText) × Goes (AreSupplied gives seen) named manner (said line files) from at old from end new)
  looked manner line look from at end old new (Ok done) asks_not looks_so is told =
      ([], inr (inl (record { asks_not = asks_not; look = look; looks_so = looks_so; boxes = refl; is = is; tells = told })))
  looked manner line look from at end old new (Err fault) asks_not looks_so is told = tt

  pub come_more : (manner : Manner) (input : Option (List ℕ)) (b : PlainBook) (from : S) (old left next : Option (List ℕ)) (between to : S) (at end : Standing) (mid new : Option (List ℕ)) (files : List FileText)
      (given line after : List ℕ) → HasCome (AreSupplied gives seen) named manner input b from old left between at mid → IfSome left (λ text. given ≡ take_through 10 text) → DropsThrough left next 10 → 0 < length given
      → lines_of given ≡ line ∷ lines_of after → ¬ (Ends manner line) → Goes (AreSupplied gives seen) named manner (said line files) between at mid to end new
      → HasCome (AreSupplied gives seen) named manner input b from old next to end new
  come_more manner input b from old left next between to at end mid new files given line after =
      come_on (GoesAt (AreSupplied gives seen) named manner) manner input (place from (silent b) old) left next (place between at mid) (place to end new) (said line files) given after

-- ---- if what supplied its boxes implies what holds of them
module _ {S : Type 0} (P : S → List Step → S → Type 0) (Q : List Step → Type 0) (named : List ℕ → List FileText → Type 0) (implies : (from : S) (run : List Step) (to : S) → P from run to → Q run) where
  pub goes_so : (manner : Manner) (it : Said) (from : S) (at : Standing) (old : Option (List ℕ)) (to : S) (end : Standing) (new : Option (List ℕ)) → Goes P named manner it from at old to end new → Goes (with_boxes Q) named manner it tt at old tt end new
  goes_so manner it from at old to end new (inl helped) = inl (record { asks = helped.asks; boxes = refl; is = helped.is; written = helped.written })
  goes_so manner it from at old to end new (inr (inl looked)) =
      inr (inl (record { asks_not = looked.asks_not; look = looked.look; looks_so = looked.looks_so; boxes = refl; is = looked.is; tells = looked.tells }))
  goes_so manner it from at old to end new (inr (inr heard)) = inr (inr (record {
    asks_not = heard.asks_not;
    looks_not = heard.looks_not;
    answered = record {
      files = heard.answered.files;
      run = heard.answered.run;
      boxes = implies from heard.answered.run to heard.answered.boxes;
      right = heard.answered.right;
      written = heard.answered.written;
      is = heard.answered.is;
    };
  }))

  pub come_so : (manner : Manner) (input : Option (List ℕ)) (b : PlainBook) (from : S) (old left : Option (List ℕ)) (to : S) (at : Standing) (new : Option (List ℕ))
      → HasCome P named manner input b from old left to at new → HasCome (with_boxes Q) named manner input b tt old left tt at new
  come_so manner input b from old left to at new =
      come_by (GoesAt P named manner) (GoesAt (with_boxes Q) named manner) (λ (p : Place S). place tt p.at p.text) (λ it from to. goes_so manner it from.boxes from.at from.text to.boxes to.at to.text) manner input
      (place from (silent b) old) left (place to at new)

  pub talked_so : (manner : Manner) (input : Option (List ℕ)) (b : PlainBook) (from : S) (old : Option (List ℕ)) (book : PlainBook) (to : S) (new : Option (List ℕ)) (summary : Summary)
      → Talked P named manner input b from old book to new summary → Talked (with_boxes Q) named manner input b tt old book tt new summary
  talked_so manner input b from old book to new summary it = record {
    unsaid = it.unsaid;
    end = it.end;
    came = come_so manner input b from old it.unsaid to it.end new it.came;
    stops = it.stops;
    took = it.took;
    left = it.left;
    counts = it.counts;
  }

-- ---- an input that was read through a buffer, and no further than to its front
buffered : (reader : Option (List ℕ)) → option_map (λ (text : List ℕ). [] ++ text) reader ≡ reader
buffered None = refl
buffered (Some text) = refl

pub buffered_front : {I A : Type 0} (remaining : I → Option (List ℕ)) (reader : I) (limited : Take I) (input : BufReader (Take I) A) → reader_inner input ≡ limited → reader_buffer input ≡ [] → reader_capacity input ≡ 8192
    → take_limit limited ≡ MOST_SCRIPT + 1 → take_inner limited ≡ reader → reader_remaining (take_remaining remaining) input ≡ front (remaining reader)
buffered_front remaining reader limited input inner empty capacity limit same =
    ap (λ (n : ℕ). if n == 0 then None else prepend_known (reader_buffer input) (take_remaining remaining (reader_inner input))) capacity
    ∙ ap (λ (before : List ℕ). prepend_known before (take_remaining remaining (reader_inner input))) empty
    ∙ buffered (take_remaining remaining (reader_inner input))
    ∙ ap (take_remaining remaining) inner
    ∙ ap (λ (n : ℕ). option_map (take n) (remaining (take_inner limited))) limit
    ∙ ap (λ (it : _). front (remaining it)) same

-- if all of a script was answered, its front is the whole
nothing_left : (left : List ℕ) → MayStopAt Script (lines_of left) → left ≡ []
nothing_left [] stops = refl
nothing_left (byte ∷ left) stops = absurd (let first = first_cut byte left in subst (MayStopAt Script) first.1.1 stops)

whole_text : (text left : List ℕ) → MayStopAt Script (lines_of left) → TookAtMost MOST_SCRIPT (Some (take (MOST_SCRIPT + 1) text)) (Some left) → length text ≤ MOST_SCRIPT
whole_text text left stops takes =
    let none : length left ≡ 0 = ap length (nothing_left left stops) in
    let count = length-take (MOST_SCRIPT + 1) text in
    omega (arith, none, count, takes)

pub whole_input : (manner : Manner) (reader unsaid : Option (List ℕ)) → MayStop manner unsaid → TookAtMost MOST_SCRIPT (front reader) unsaid → IsWhole manner reader
whole_input Dialogue reader unsaid stops takes = tt
whole_input Script None unsaid stops takes = tt
whole_input Script (Some text) None stops takes = absurd takes
whole_input Script (Some text) (Some left) stops takes = whole_text text left stops takes
