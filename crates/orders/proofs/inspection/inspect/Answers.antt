use Rattle.std.proofs.Common.{arith}
use Rattle.orders.proofs.Answering.{answers_refused, answers_found, one_answer, answer_passes, answer_fails}
use Rattle.orders.proofs.inspection.inspect.Goals as goal

pub returns-in_default : goal.returns-in_default
returns-in_default g c =
    let m = g.M.MemoryModel.meaning c.args.model.now in
    let laws = g.M.MemoryModel.laws c.args.model.now in
    let t = c.args.table.now in
    let formed = c.completeness.ensures.formed in
    let numbers = c.args.numbers.now in
    let is = answers_refused m laws t formed numbers c.completeness.result c.completeness.ensures.complete c.completeness.ensures.answer (λ e. omega arith) in
    record {
      answer = is;
      one = λ other i. one_answer m laws t formed numbers other _ i is;
      passes = answer_passes m laws t formed numbers _ is;
      fails = answer_fails m laws t formed numbers _ is;
      formed = formed;
    }

pub returns-in-0-default : goal.returns-in-0-default
returns-in-0-default g c =
    let m = g.M.MemoryModel.meaning c.args.model.now in
    let laws = g.M.MemoryModel.laws c.args.model.now in
    let t = c.args.table.now in
    let formed = c.completeness.ensures.formed in
    let numbers = c.args.numbers.now in
    let is = answers_found m laws t formed numbers c.completeness.result c.completeness.ensures.complete c.value.result (omega arith) c.value.ensures in
    record {
      answer = is;
      one = λ other i. one_answer m laws t formed numbers other _ i is;
      passes = answer_passes m laws t formed numbers _ is;
      fails = answer_fails m laws t formed numbers _ is;
      formed = formed;
    }
