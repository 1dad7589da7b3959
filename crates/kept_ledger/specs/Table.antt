-- The tables of a kept book as SQLite has them: its events, and what it began with.
use Rattle.std.specs.Prelude.{ℕ, true, false, List, [], ◌∷◌, codes, Some, None}
use Rattle.sqlite_value.specs.declared.value.Value.TheVariants.{Null}
use Rattle.sqlite_value.specs.declared.keys.Collation.TheVariants.{Binary}
use Rattle.sqlite_schema.specs.declared.schema.Kind.TheVariants.{Integer, Blob, Text}
use Rattle.sqlite_schema.specs.declared.schema.Table.{Table}
use Rattle.sqlite_schema.specs.declared.schema.Schema.{Schema}

abbrev pub event_table : Table
event_table = record {
  name = codes "event";
  tree = 0;
  columns = (record { name = codes "place"; kind = Integer; is_strict = true; not_null = false; default = Null; collation = Binary })
      ∷ (record { name = codes "time"; kind = Integer; is_strict = true; not_null = true; default = Null; collation = Binary })
      ∷ (record { name = codes "serial"; kind = Integer; is_strict = true; not_null = false; default = Null; collation = Binary })
      ∷ (record { name = codes "prog"; kind = Integer; is_strict = true; not_null = false; default = Null; collation = Binary })
      ∷ (record { name = codes "verb"; kind = Text; is_strict = true; not_null = true; default = Null; collation = Binary })
      ∷ (record { name = codes "map"; kind = Integer; is_strict = true; not_null = false; default = Null; collation = Binary })
      ∷ (record { name = codes "key"; kind = Blob; is_strict = true; not_null = false; default = Null; collation = Binary })
      ∷ (record { name = codes "value"; kind = Blob; is_strict = true; not_null = false; default = Null; collation = Binary })
      ∷ (record { name = codes "flag"; kind = Integer; is_strict = true; not_null = false; default = Null; collation = Binary })
      ∷ (record { name = codes "at"; kind = Integer; is_strict = true; not_null = false; default = Null; collation = Binary })
      ∷ (record { name = codes "size"; kind = Integer; is_strict = true; not_null = false; default = Null; collation = Binary })
      ∷ (record { name = codes "op"; kind = Integer; is_strict = true; not_null = false; default = Null; collation = Binary })
      ∷ (record { name = codes "target"; kind = Integer; is_strict = true; not_null = false; default = Null; collation = Binary })
      ∷ (record { name = codes "name"; kind = Text; is_strict = true; not_null = false; default = Null; collation = Binary })
      ∷ (record { name = codes "path"; kind = Text; is_strict = true; not_null = false; default = Null; collation = Binary })
      ∷ (record { name = codes "type"; kind = Text; is_strict = true; not_null = false; default = Null; collation = Binary })
      ∷ (record { name = codes "key_size"; kind = Integer; is_strict = true; not_null = false; default = Null; collation = Binary })
      ∷ (record { name = codes "value_size"; kind = Integer; is_strict = true; not_null = false; default = Null; collation = Binary })
      ∷ (record { name = codes "entries"; kind = Integer; is_strict = true; not_null = false; default = Null; collation = Binary })
      ∷ (record { name = codes "flags"; kind = Integer; is_strict = true; not_null = false; default = Null; collation = Binary })
      ∷ (record { name = codes "code"; kind = Blob; is_strict = true; not_null = false; default = Null; collation = Binary }) ∷ [];
  key = Some 0;
  primary = 0 ∷ [];
  uniques = [];
  orders = [];
  checks = [];
  references = [];
  computed = [];
  stamps = record { places = []; terms = []; formats = [] };
  is_counted = false;
}

-- as its text defines it, and as it stands after the events
abbrev pub book_defined : Table
book_defined = record {
  name = codes "book";
  tree = 0;
  columns = (record { name = codes "format"; kind = Integer; is_strict = true; not_null = true; default = Null; collation = Binary })
      ∷ (record { name = codes "journal"; kind = Integer; is_strict = true; not_null = true; default = Null; collation = Binary })
      ∷ (record { name = codes "budget"; kind = Integer; is_strict = true; not_null = true; default = Null; collation = Binary })
      ∷ (record { name = codes "last_id"; kind = Integer; is_strict = true; not_null = true; default = Null; collation = Binary })
      ∷ (record { name = codes "last_serial"; kind = Integer; is_strict = true; not_null = true; default = Null; collation = Binary })
      ∷ (record { name = codes "devices"; kind = Text; is_strict = true; not_null = true; default = Null; collation = Binary }) ∷ [];
  key = None;
  primary = [];
  uniques = [];
  orders = [];
  checks = [];
  references = [];
  computed = [];
  stamps = record { places = []; terms = []; formats = [] };
  is_counted = false;
}

abbrev pub book_table : Table
book_table = record book_defined { tree = 1 }

abbrev pub ledger_schema : Schema
ledger_schema = record { tables = event_table ∷ book_table ∷ []; indexes = []; views = [] }

-- of a database that has the table of events alone, as while both are made
abbrev pub event_schema : Schema
event_schema = record { tables = event_table ∷ []; indexes = []; views = [] }

-- of a database that has no table
abbrev pub no_schema : Schema
no_schema = record { tables = []; indexes = []; views = [] }

-- ---- the questions
abbrev pub read_terms_text : List ℕ
read_terms_text = codes "SELECT format, journal, budget, last_id, last_serial, devices FROM book"

abbrev pub read_text : List ℕ
read_text = codes "SELECT place, serial, prog, verb, map, key, value, flag, at, size, op, target, name, path, type, key_size, value_size, entries, flags, code FROM event ORDER BY place"
