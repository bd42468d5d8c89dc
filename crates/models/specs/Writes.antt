-- Which models have views that each hold every write: two base models, and each layer over such a model.
use Rattle.std.proofs.Common.{inr, arith}
use Rattle.models.specs.Growth.{is_there}
use Rattle.models.specs.Meaning.{Meaning}
use Rattle.models.specs.Bases.{sequential, pram}
use Rattle.models.specs.Layers.{write_into, agreement, HoldsWrites}

pub sequential_every : HoldsWrites sequential
sequential_every t k i view write = record { view = omega (arith, view.0, view.1); there = is_there t i write.0 write.1 }

pub pram_every : HoldsWrites pram
pram_every t k i view write = record { view = view; operation = write.0; there = write.1; seen = inr write.2 }

pub write_into_every : (m : Meaning) → HoldsWrites m → HoldsWrites (write_into m)
write_into_every m every = every

pub agreement_every : (m : Meaning) → HoldsWrites m → HoldsWrites (agreement m)
agreement_every m every = every
