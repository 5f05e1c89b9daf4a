use Rattle.std.proofs.Common.{◌≡◌, List, [], ◌∷◌, Ok, None, Some, pos, negsuc, false, refl}
use Rattle.sqlite.specs.declared.types.Value.TheVariants.{Null, Int}
use Rattle.sqlite.specs.Command.{Command}
use Rattle.sqlite.specs.Command.TheVariants.{InsertOr, CreateTable}
use Rattle.sqlite.specs.Source.TheVariants.{Values}
use Rattle.sqlite_schema.specs.declared.command.Conflict.TheVariants.{Abort}
use Rattle.sqlite_schema.specs.declared.command.Upsert.{Upsert}
use Rattle.sqlite_sql.specs.declared.ops.BinaryOp.TheVariants.{Compare}
use Rattle.sqlite_sql.specs.declared.ops.CompareOp.TheVariants.{Eq}
use Rattle.sqlite.specs.Collation.TheVariants.{Binary}
use Rattle.sqlite.specs.Query.{Query, inner, end}
use Rattle.sqlite.specs.Term.{Term, lit, col, op2}
use Rattle.sqlite.specs.Compile.{table_defined_by}
use Rattle.sqlite.specs.Change.{created}
use Rattle.sqlite_tied.specs.Compute.{everything}
use Rattle.sqlite.specs.Listing.{understood}
use Rattle.sqlite.proofs.Callers.{IsPlain, command_of}
use Rattle.smi_stable.specs.SqlTable.{create_text, upsert_text, stable_table, stable_schema, no_schema}

pub defined : table_defined_by create_text ≡ Ok stable_table
unfolding understood everything
defined = refl

pub made : created no_schema stable_table ≡ stable_schema
unfolding understood everything
made = refl

pub create_is : command_of (understood no_schema create_text) ≡ CreateTable
unfolding understood everything
create_is = refl

abbrev pub terms : List Term
terms = lit Null ∷ col 0 0 ∷ col 0 1 ∷ col 0 2 ∷ col 0 3 ∷ []

-- the row that has the rowid of the fifth parameter, with the last parameter as its bytes
abbrev pub change : Query
change = record {
  from = inner 0 end;
  filter = op2 (Compare Eq Binary) (col 1 0) (col 0 4) ∷ [];
  group = None;
  project = col 1 0 ∷ col 1 0 ∷ col 1 1 ∷ col 1 2 ∷ col 1 3 ∷ col 0 9 ∷ [];
  distinct = false;
  collations = [];
  order = [];
  limit = lit (Int (negsuc 0));
  offset = lit (Int (pos 0));
}

abbrev pub over_key : Upsert
over_key = record { target = Some (1 ∷ 2 ∷ 3 ∷ []); update = Some (record { lets = []; body = change }) }

abbrev pub upsert_command : Command
upsert_command = InsertOr 0 Abort (Values terms 5) (over_key ∷ [])

pub upsert_is : command_of (understood stable_schema upsert_text) ≡ upsert_command
unfolding understood everything
upsert_is = refl

pub upsert_plain : IsPlain (understood stable_schema upsert_text)
unfolding understood everything
upsert_plain = (refl, refl)
