-- Which faults may end what, by the fault of a part of it.
use Rattle.std.proofs.Common.{◌≡◌, ◌⊎◌, ℕ, List, Result, Ok, Err, inl, inr, refl, sym, subst, IfErr, IsErrAnd}
use Rattle.std.specs.Prelude.{MatchResult}
use Rattle.thread_live.specs.declared.fault.LineFault.{LineFault}
use Rattle.thread_live.specs.declared.fault.LineFault.TheVariants as line
use Rattle.thread_host_run.specs.declared.fault.RunHostFault.{RunHostFault}
use Rattle.thread_host_run.specs.declared.fault.RunHostFault.TheVariants as served
use Rattle.console_input.specs.declared.fault.ReadFault.{ReadFault}
use Rattle.console_input.specs.declared.fault.ReadFault.TheVariants as read
use Rattle.bpfcon.specs.declared.fault.Fault.{Fault}
use Rattle.bpfcon.specs.declared.fault.Fault.TheVariants.{Usage, Command, NoWord, NotOfBook, BadBook, Unread, BadFrames, NoMemory, NoThread, Spent, OfFile, OfFrames, OfLive, OfLog, CannotWrite}
use Rattle.bpfcon.specs.Faults.{fault_of_line, IsOfRead, IsNoFrames, IsOfServing}
use Rattle.bpfcon.specs.Ends.{EndsPart, EndsReading, EndsLines, EndsFrames, EndsLive, EndsBook}

pub of_read : (name : List ℕ) (why : ReadFault) (fault : Fault) → IsOfRead name why fault → EndsReading fault
of_read name read.NoMemory fault is = subst EndsReading (sym is) tt
of_read name (read.Unread cause) fault (inl none) = subst EndsReading (sym none) tt
of_read name (read.Unread cause) fault (inr (it, named, is)) = subst EndsReading (sym is) tt

never : {A : Type 0} → ⊥ → A
never it = elim it [ ]

same : {A : Type 0} → A → A
same it = it

-- what ends a part ends one that more may end
module _ {r r' f f' l l' b b' : Type 0} (refused : r → r') (frames : f → f') (live : l → l') (book : b → b') where
  more : (fault : Fault) → EndsPart r f l b fault → EndsPart r' f' l' b' fault
  more NoMemory ends = tt
  more (Unread _ _) ends = tt
  more CannotWrite ends = refused ends
  more (BadFrames _) ends = frames ends
  more NoThread ends = frames ends
  more Spent ends = live ends
  more (OfFile _ _) ends = book ends
  more (OfLog _ _) ends = book ends
  more Usage ends = elim ends [ ]
  more Command ends = elim ends [ ]
  more NoWord ends = elim ends [ ]
  more NotOfBook ends = elim ends [ ]
  more BadBook ends = elim ends [ ]
  more (OfFrames _ _) ends = elim ends [ ]
  more (OfLive _ _) ends = elim ends [ ]

module _ (refused : Type 0) where
  -- a write that failed ends lines if the output has refused it
  pub of_line : (part : LineFault) → (part ≡ line.Write → refused) → EndsLive refused (fault_of_line part)
  of_line line.Write so = so refl
  of_line line.SeatSpent so = tt

  of_none : (bytes : List ℕ) (fault : Fault) → IsNoFrames bytes fault → EndsFrames refused fault
  of_none bytes fault (why, tells, is) = subst (EndsFrames refused) (sym is) tt

  pub of_serving : (bytes : List ℕ) (why : RunHostFault) (fault : Fault) → IsOfServing bytes why fault → (why ≡ served.Write → refused) → EndsFrames refused fault
  of_serving bytes served.BadDevices fault is so = subst (EndsFrames refused) (sym is) tt
  of_serving bytes served.BadLimits fault is so = subst (EndsFrames refused) (sym is) tt
  of_serving bytes served.BadFrames fault is so = of_none bytes fault is
  of_serving bytes served.NoMemory fault is so = subst (EndsFrames refused) (sym is) tt
  of_serving bytes served.NoThread fault is so = subst (EndsFrames refused) (sym is) tt
  of_serving bytes served.Write fault is so = subst (EndsFrames refused) (sym is) (so refl)

  -- frames that are read write nothing
  pub of_frames : (bytes : List ℕ) (why : RunHostFault) (fault : Fault) → IsOfServing bytes why fault → (why ≡ served.BadFrames) ⊎ (why ≡ served.NoMemory) → EndsFrames refused fault
  of_frames bytes why fault is (inl bad) = of_none bytes fault (subst (λ w. IsOfServing bytes w fault) bad is)
  of_frames bytes why fault is (inr none) = subst (EndsFrames refused) (sym (subst (λ w. IsOfServing bytes w fault) none is)) tt

  -- what ends a part ends the whole
  pub in_live : (fault : Fault) → EndsFrames refused fault → EndsLive refused fault
  in_live = more same same never never

  pub lines_live : (fault : Fault) → EndsLines refused fault → EndsLive refused fault
  lines_live = more same never never never

  pub read_live : (fault : Fault) → EndsReading fault → EndsLive refused fault
  read_live = more never never never never

  pub read_book : (fault : Fault) → EndsReading fault → EndsBook refused fault
  read_book = more never never never never

-- what may end a part may end the whole
pub may : {A : Type 0} (P Q : Fault → Type 0) (r : Result A Fault) → ((fault : Fault) → P fault → Q fault) → IfErr r P → IfErr r Q
may P Q (Ok it) more ends = tt
may P Q (Err fault) more ends = more fault ends

-- what a `?` passes on
pub passed : {A : Type 0} (P : Fault → Type 0) (fault : Fault) (r : Result A Fault) → IsErrAnd r (λ made. made ≡ fault) → P fault → IfErr r P
passed P fault (Ok it) is ends = absurd is
passed P fault (Err made) is ends = subst P (sym is) ends

-- a flush that fails ends it, too
pub flushed_ends : {A B E : Type 0} (P : Fault → Type 0) (flush : Result B E) (r ran : Result A Fault) → MatchResult flush (λ _. r ≡ ran) (λ _. r ≡ Err CannotWrite)
    → P CannotWrite → IfErr ran P → IfErr r P
flushed_ends P (Ok done) r ran is at ends = subst (λ x. IfErr x P) (sym is) ends
flushed_ends P (Err why) r ran is at ends = subst (λ x. IfErr x P) (sym is) at
