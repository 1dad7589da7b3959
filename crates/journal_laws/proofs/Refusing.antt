-- A refused event leaves the book as it was.
use Rattle.std.proofs.Common.{◌≡◌, Bool, true, false, refl}
use Rattle.host_state.specs.declared.reply.Reply.{Reply}
use Rattle.host_state.specs.declared.reply.Reply.TheVariants.{Done, Id, Loaded, Value, Old}
use Rattle.journal_model.specs.Book.{PlainBook}
use Rattle.journal_model.specs.Run.{PlainEvent, PlainAnswer}
use Rattle.journal_model.specs.Serve.{reply_told}
use Rattle.journal_laws.specs.Laws.{is_refused, is_refused_access, RefusalsChangeNothing}
use Rattle.journal_model.proofs.Cases.{step_cases}

-- what an access that was done is told
not_refused : (reply : Reply) → is_refused_access (reply_told reply) ≡ false
not_refused Done = refl
not_refused (Id id) = refl
not_refused (Loaded id) = refl
not_refused (Value bytes) = refl
not_refused (Old number) = refl

pub changes_nothing : (b : PlainBook) (refused : Bool) (event : PlainEvent) → RefusalsChangeNothing b refused event
changes_nothing b refused event =
    let P : PlainBook × PlainAnswer → Type 0 = λ p. is_refused p.1 ≡ true → p.0 ≡ b in
    step_cases P refused b event (record {
      stays = λ answer s i p e. refl;
      records = λ change s reply n a room e. cc;
      serves = λ change s reply n a maps progs room e. let done : is_refused_access (reply_told reply) ≡ false = not_refused reply in cc;
      marks = λ name is none e. cc;
      undoes = λ count e. cc;
      undoes_last = λ any e. cc;
      redoes = λ any e. cc;
      takes_out = λ serial s there r room e. cc;
      forgets = λ name count is found none e. cc;
    })
