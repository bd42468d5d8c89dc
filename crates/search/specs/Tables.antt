-- What the search's tables say of a model and a trace. Rests on their parts.
use Rattle.std.specs.Prelude.{◌≡◌, ℕ, suc, ◌<◌, length}
use Rattle.trace.specs.Traces.{Trace, processor_count}
use Rattle.ranks.specs.Numbers.{numbers, number_at}
use Rattle.models.specs.Meaning.{Meaning, Is}
use Rattle.models.specs.Rows.{Row, Rows, row_at}
use Rattle.search.specs.Filling.{operation_of}
use Rattle.search.specs.declared.tables.Tables.{Tables}

-- the tables say what the model means on the trace
pub record Tabled (m : Meaning) (t : Trace) (tables : Tables) : Type 0 where
  pub ranks : tables.ranks ≡ numbers t
  pub views : length tables.held ≡ m.views (processor_count t) t.variables
  pub held : (k : ℕ) → k < length tables.held → Row (m.holds t (suc k)) (numbers t) (row_at tables.held k)
  pub before : Rows (m.before t) (numbers t) tables.before
  pub alike : Rows (m.alike t) (numbers t) tables.alike
  pub operations : (r : ℕ) → r < length (numbers t) → Is t (number_at (numbers t) r) (operation_of tables.operations r)
