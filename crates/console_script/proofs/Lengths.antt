-- The length of a line that was read, or that goes wrong elsewhere.
use Rattle.std.proofs.Common.{◌≡◌, ◌≢◌, ℕ, ◌<◌, ◌≤◌, Option, Result, Ok, Err, inl, inr}
use Rattle.std.proofs.lemmas.Bool.{cases_lt}
use Rattle.bt_syntax.specs.declared.command.Command.{Command}
use Rattle.bt_syntax.specs.declared.fault.SyntaxFault.{SyntaxFault}
use Rattle.bt_syntax.specs.declared.fault.SyntaxFault.TheVariants.{TooLong}

-- what is told of a line that goes wrong elsewhere than in its length
abbrev gone_wrong : SyntaxFault → Result (Option Command) SyntaxFault
gone_wrong fault = Err fault

same_fault : (a b : SyntaxFault) → gone_wrong a ≡ gone_wrong b → a ≡ b
same_fault a b e = cc

pub not_long : (fault : SyntaxFault) (n : ℕ) → (131072 < n → gone_wrong fault ≡ gone_wrong TooLong) → fault ≢ TooLong → n ≤ 131072
not_long fault n long other = elim (cases_lt 131072 n) [
  | inl above ↦ absurd (other (same_fault fault TooLong (long above)))
  | inr within ↦ within
]

-- a line that is read is not too long
pub read_short : (found : Option Command) (n : ℕ) → (131072 < n → (let read : Result (Option Command) SyntaxFault = Ok found in read ≡ gone_wrong TooLong)) → n ≤ 131072
read_short found n long = elim (cases_lt 131072 n) [
  | inl above ↦ absurd (by (long above))
  | inr within ↦ within
]
  where
    by : (let read : Result (Option Command) SyntaxFault = Ok found in read ≡ gone_wrong TooLong) → ⊥
    by e = cc
