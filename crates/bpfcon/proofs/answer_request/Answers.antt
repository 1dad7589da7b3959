use Rattle.std.proofs.Common.{inl, inr}
use Rattle.bpfcon.specs.Ends.{EndsLive, EndsServed, EndsRun}
use Rattle.bpfcon.proofs.Ending.{may}
use Rattle.bpfcon.proofs.answer_request.Goals as goal

pub returns-in-Plain-clause-ran : goal.returns-in-Plain-clause-ran
returns-in-Plain-clause-ran g c = rw c.in-Plain.is c.carry_out.ensures.ran

pub returns-in-Book-clause-ran : goal.returns-in-Book-clause-ran
returns-in-Book-clause-ran g c = rw c.in-Book.is c.run_on_book-ran.ensures.ran

pub returns-in-Plain-clause-only : goal.returns-in-Plain-clause-only
returns-in-Plain-clause-only g c = may (EndsLive _) (EndsRun _) c.carry_out.result.1 (λ fault ends. inl ends) c.carry_out.ensures.only

pub returns-in-Book-clause-only : goal.returns-in-Book-clause-only
returns-in-Book-clause-only g c = may (EndsServed _) (EndsRun _) c.run_on_book-ran.result (λ fault ends. inr ends) c.run_on_book-ran.ensures.only
