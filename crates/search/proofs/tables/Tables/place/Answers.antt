use Rattle.search.proofs.Turns.{noted_write, noted_read}
use Rattle.search.proofs.tables.Tables.place.Goals as goal

pub returns-in-Write : goal.returns-in-Write
returns-in-Write c = noted_write c.args.self.now c.args.rank c.args.latest.now c.told-latest c.number.result c.in-Write.is c.number.ensures.value

pub returns-in_default : goal.returns-in_default
returns-in_default c = noted_read c.args.self.now c.args.rank c.args.latest.now c.told-latest c.in_default.is
