use Rattle.orders.specs.Findings.{clause_number}
use Rattle.orders.specs.Inspecting.{ends, fails}
use Rattle.orders.proofs.clauses.Clauses.pass_list.Goals as goal

pub returns-in_default : goal.returns-in_default
returns-in_default g c = ends c.in_default.ensures

pub returns-in-Some-broken_clause : goal.returns-in-Some-broken_clause
returns-in-Some-broken_clause g c = fails _ _ (clause_number c.in-Some-broken_clause.clause) c.in-Some.ensures c.in-Some-broken_clause.ensures
