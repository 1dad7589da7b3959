-- What the question for the last events means.
use Rattle.std.proofs.Common.{◌≡◌, ℕ, List, [], ◌∷◌, ◌++◌, codes, false, true, is_err, refl}
use Rattle.sqlite_value.specs.declared.keys.Collation.TheVariants.{Binary}
use Rattle.sqlite_sql.specs.Term.{col}
use Rattle.sqlite_sql.specs.Query.{Query}
use Rattle.sqlite_schema.specs.declared.command.Command.TheVariants.{Select}
use Rattle.sqlite_tied.specs.Compute.{everything}
use Rattle.sqlite.specs.Listing.{understood, reads_listing, listing_schema}
use Rattle.sqlite.proofs.Callers.{IsPlain, command_of}
use Rattle.kept_ledger.specs.Table.{ledger_schema, no_schema}
use Rattle.kept_ledger.proofs.Texts.{query, names}
use Rattle.kept_log.specs.Timed.{last_text}

-- the last places first, up to so many as the parameter says; the time comes last
abbrev pub last_query : Query
last_query = record query {
  project = col 1 0 ∷ col 1 3 ∷ col 1 4 ∷ col 1 5 ∷ col 1 6 ∷ col 1 7 ∷ col 1 8 ∷ col 1 9 ∷ col 1 10 ∷ col 1 11 ∷ col 1 12 ∷ col 1 13 ∷ col 1 14 ∷ col 1 15 ∷ col 1 16 ∷ col 1 17 ∷ col 1 18 ∷ col 1 19 ∷ col 1 20 ∷ col 1 21 ∷ col 1 2 ∷ [];
  order = (col 1 0, record { collation = Binary; descending = true }) ∷ [];
  limit = col 0 0;
}

abbrev last_names : List (List ℕ)
last_names = names ++ codes "time" ∷ []

pub last_is : (command_of (understood ledger_schema last_text) ≡ Select (record { lets = []; body = last_query }) last_names) × (reads_listing ledger_schema last_text ≡ false)
    × IsPlain (understood ledger_schema last_text) × (is_err (understood no_schema last_text) ≡ true)
unfolding understood listing_schema everything
last_is = (refl, refl, (refl, refl), refl)
