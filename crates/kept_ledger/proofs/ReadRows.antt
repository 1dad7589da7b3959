-- The events that rows show.
use Rattle.std.proofs.Common.{◌≡◌, ℕ, ◌+◌, List, [], ◌∷◌, ◌++◌, length, sym, ap, subst, ◌∙◌, append_assoc, length-append, arith, rules}
use Rattle.std.proofs.lemmas.List.{nil_from_length}
use Rattle.sqlite_value.specs.Order.{Row as Values}
use Rattle.kept_event.specs.declared.event.KeptEvent.{KeptEvent}
use Rattle.kept_ledger.specs.declared.fault.ReadFault.{ReadFault}
use Rattle.kept_ledger.specs.declared.fault.ReadFault.TheVariants.{Sql, DoesNotFit}
use Rattle.kept_ledger.specs.Ledger.{Entry, IsKept, AreKept, shown, shown_from, events_of}
use Rattle.kept_ledger.specs.Rows.{Shows, IsNoEvent, ShowFrom, TellsRow, TellsRows}

-- some events are read, and the rest shows the others
pub record IsRead (es : List Entry) (done : List KeptEvent) (rest : List Values) (place : ℕ) : Type 0 where
  pub tail : List Entry
  pub parts : events_of es ≡ done ++ events_of tail
  pub rows : rest ≡ shown_from place tail
  pub kept : AreKept tail

-- the next of them
pub record Next (es : List Entry) (done : List KeptEvent) (row : Values) (behind : List Values) (place : ℕ) : Type 0 where
  pub entry : Entry
  pub kept : IsKept entry
  pub row_is : row ≡ shown place entry
  pub after : IsRead es (done ++ entry.event ∷ []) behind (place + 1)

next : (es : List Entry) (done : List KeptEvent) (row : Values) (behind : List Values) (place : ℕ) → IsRead es done (row ∷ behind) place → Next es done row behind place
next es done row behind place was = from was.tail was.parts was.rows was.kept
  where
    from : (tail : List Entry) → events_of es ≡ done ++ events_of tail → row ∷ behind ≡ shown_from place tail → AreKept tail → Next es done row behind place
    from [] parts rows kept = absurd cc
    from (e ∷ tail) parts rows kept =
        let assoc : done ++ e.event ∷ events_of tail ≡ (done ++ e.event ∷ []) ++ events_of tail = search (rules, append_assoc) in
        record { entry = e; kept = kept.0; row_is = cc; after = record { tail = tail; parts = parts ∙ assoc; rows = cc; kept = kept.1 } }

all_read : (es : List Entry) (done : List KeptEvent) (place : ℕ) → IsRead es done [] place → done ≡ events_of es
all_read es done place was = from was.tail was.parts was.rows
  where
    from : (tail : List Entry) → events_of es ≡ done ++ events_of tail → [] ≡ shown_from place tail → done ≡ events_of es
    from [] parts rows = let whole : done ++ [] ≡ done = search rules in sym (parts ∙ whole)
    from (e ∷ tail) parts rows = absurd cc

pub next_of : (es : List Entry) (done : List KeptEvent) (rest : List Values) (row : Values) (behind : List Values) (place : ℕ) → rest ≡ row ∷ behind → IsRead es done rest place → Next es done row behind place
next_of es done rest row behind place cut was = next es done row behind place (subst (λ r. IsRead es done r place) cut was)

pub one_more : (es : List Entry) (done new : List KeptEvent) (row : Values) (behind : List Values) (place : ℕ) (n : Next es done row behind place) (event : KeptEvent) → event ≡ n.entry.event
    → new ≡ done ++ event ∷ [] → IsRead es new behind (place + 1)
one_more es done new row behind place n event same added = subst (λ read. IsRead es read behind (place + 1)) (sym (added ∙ ap (λ e. done ++ e ∷ []) same)) n.after

pub all_of : (es : List Entry) (done : List KeptEvent) (rest : List Values) (place : ℕ) → length rest ≡ 0 → IsRead es done rest place → done ≡ events_of es
all_of es done rest place none was = all_read es done place (subst (λ r. IsRead es done r place) (nil_from_length rest none) was)

-- ---- what any rows show
-- the rows before the rest show these events
pub record HasShown (rows rest : List Values) (done : List KeptEvent) (place : ℕ) : Type 0 where
  pub before : List Values
  pub whole : rows ≡ before ++ rest
  pub place_is : place ≡ 1 + length before
  pub show : ShowFrom 1 before done

show_more : (place : ℕ) (before : List Values) (done : List KeptEvent) (row : Values) (event : KeptEvent) → ShowFrom place before done → Shows (place + length before) row event
    → ShowFrom place (before ++ row ∷ []) (done ++ event ∷ [])
show_more place [] [] row event h s = (subst (λ p. Shows p row event) (omega arith) s, tt)
show_more place [] (e ∷ done) row event h s = absurd h
show_more place (r ∷ before) [] row event h s = absurd h
show_more place (r ∷ before) (e ∷ done) row event h s = (h.0, show_more (place + 1) before done row event h.1 (subst (λ p. Shows p row event) (omega arith) s))

module _ (rows rest behind : List Values) (done : List KeptEvent) (row : Values) (place : ℕ) (cut : rest ≡ row ∷ behind) (was : HasShown rows rest done place) where
  here : rows ≡ was.before ++ row ∷ behind
  here = was.whole ∙ ap (λ r. was.before ++ r) cut

  pub shown_more : (new : List KeptEvent) (event : KeptEvent) → Shows place row event → new ≡ done ++ event ∷ [] → HasShown rows behind new (place + 1)
  shown_more new event shows added = record {
    before = was.before ++ row ∷ [];
    whole = let assoc : was.before ++ row ∷ behind ≡ (was.before ++ row ∷ []) ++ behind = search (rules, append_assoc) in here ∙ assoc;
    place_is = omega (arith, was.place_is, length-append was.before (row ∷ []));
    show = subst (ShowFrom 1 (was.before ++ row ∷ [])) (sym added) (show_more 1 was.before done row event was.show (subst (λ p. Shows p row event) was.place_is shows));
  }

  pub stops_here : (fault : ReadFault) → TellsRow place row fault → TellsRows rows fault
  stops_here (Sql error) h = h
  stops_here (DoesNotFit number) h = record {
    before = was.before;
    row = row;
    behind = behind;
    whole = here;
    number_is = h.0 ∙ was.place_is;
    events = done;
    show = was.show;
    none = subst (λ p. IsNoEvent p row) (sym h.0) h.1;
  }
  stops_here _ h = absurd h

pub all_shown : (rows rest : List Values) (done : List KeptEvent) (place : ℕ) → length rest ≡ 0 → HasShown rows rest done place → ShowFrom 1 rows done
all_shown rows rest done place none was =
    let whole : rows ≡ was.before = was.whole ∙ ap (λ r. was.before ++ r) (nil_from_length rest none) ∙ search rules in
    subst (λ r. ShowFrom 1 r done) (sym whole) was.show
