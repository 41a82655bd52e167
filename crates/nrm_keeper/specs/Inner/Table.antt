-- The four fixed texts, the table that the first one makes, and kept rows as its values.
use Rattle.std.specs.Prelude.{◌≢◌, ℕ, pos, Bool, true, false, List, [], ◌∷◌, Some, codes}
use Rattle.sqlite_value.specs.declared.keys.Collation.TheVariants.{Binary}
use Rattle.sqlite_value.specs.declared.value.Value.TheVariants as value
use Rattle.sqlite_value.specs.Order.{Row, column}
use Rattle.sqlite_schema.specs.declared.schema.Column.{Column}
use Rattle.sqlite_schema.specs.declared.schema.Kind.{Kind}
use Rattle.sqlite_schema.specs.declared.schema.Kind.TheVariants as kind
use Rattle.sqlite_schema.specs.declared.schema.Table.{Table}
use Rattle.sqlite_schema.specs.declared.schema.Schema.{Schema}
use Rattle.sqlite.specs.Effect.{Database}
use Rattle.nrm_keeper.specs.declared.row.KeptRow.{KeptRow}
use Rattle.nrm_keeper.specs.Stored.{no_schema}

-- the four fixed texts
abbrev pub create_text : List ℕ
create_text =
    codes "CREATE TABLE IF NOT EXISTS kept (number INTEGER PRIMARY KEY, product TEXT NOT NULL, party INTEGER NOT NULL) STRICT"

abbrev pub insert_text : List ℕ
insert_text = codes "INSERT INTO kept (number, product, party) VALUES (?1, ?2, ?3)"

abbrev pub delete_text : List ℕ
delete_text = codes "DELETE FROM kept WHERE number = ?1"

abbrev pub select_text : List ℕ
select_text = codes "SELECT number, product, party FROM kept ORDER BY number"

-- the text that a keeper of a file asks for one row with
abbrev pub find_text : List ℕ
find_text = codes "SELECT number, product, party FROM kept WHERE number = ?1"

-- a column of a strict table, with no default
abbrev pub column_of : List ℕ → Kind → Bool → Column
column_of name of not_null =
    record { name = name; kind = of; is_strict = true; not_null = not_null; default = value.Null; collation = Binary }

-- the table that the first text makes, in the first tree of a store
abbrev pub kept_table : Table
kept_table = record {
  name = codes "kept";
  tree = 0;
  columns =
      column_of (codes "number") kind.Integer false ∷ column_of (codes "product") kind.Text true
      ∷ column_of (codes "party") kind.Integer true ∷ [];
  key = Some 0;
  primary = 0 ∷ [];
  uniques = [];
  orders = [];
  checks = [];
  references = [];
  computed = [];
  stamps = record { places = []; terms = []; formats = [] };
  is_counted = false;
}

-- a store that holds that table alone
abbrev pub kept_schema : Schema
kept_schema = record { tables = kept_table ∷ []; indexes = []; views = [] }

-- the store holds something
abbrev pub HoldsSome : Database → Type 0
HoldsSome db = db.schema ≢ no_schema

-- a kept row as the table stores it, with NULL for the key, which is the rowid, and as the query shows it
abbrev pub stored : KeptRow → Row
stored row = value.Int (pos row.number) ∷ value.Null ∷ value.Text row.product ∷ value.Int (pos row.party) ∷ []

abbrev pub shown : KeptRow → Row
shown row = value.Int (pos row.number) ∷ value.Text row.product ∷ value.Int (pos row.party) ∷ []

-- the first three values of a row
abbrev pub front : Row → Row
front row = column row 0 ∷ column row 1 ∷ column row 2 ∷ []
