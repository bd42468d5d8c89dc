-- The two layers: write-into order and agreement on writes. Each makes a model of the one below it.
-- Rests on the meaning of a model and on chains.
use Rattle.std.specs.Prelude.{◌≡◌, ℕ, true, ◌⊎◌}
use Rattle.std.proofs.Common.{sym, inl, inr, ⊎_elim}
use Rattle.trace.specs.declared.operation.Operation.{Operation}
use Rattle.trace.specs.Operations.{is_read, is_write}
use Rattle.trace.specs.Traces.{Trace, There, Prefix}
use Rattle.models.specs.Meaning.{Meaning, Laws, Is, Write, View}
use Rattle.models.specs.Chains.{Chain, one, more, chain_map}
use Rattle.models.specs.Growth.{is_grows, is_there}

-- the read r names the write w
pub record Names (t : Trace) (w r : ℕ) : Type 0 where
  pub read : Operation
  pub is : Is t r read
  pub reads : is_read read ≡ true
  pub source : read.source ≡ w
  pub write : Write t w

-- one step of the write-into order: what the model below requires, or a write before a read that names it
abbrev pub Step : Meaning → Trace → ℕ → ℕ → Type 0
Step m t i j = m.before t i j ⊎ Names t i j

-- the model below, with the transitive closure of those steps required before
abbrev pub write_into : Meaning → Meaning
write_into m = record { views = m.views; holds = m.holds; before = λ t. Chain (Step m t); alike = m.alike }

-- two different writes of one variable
pub record SameVariable (t : Trace) (i j : ℕ) : Type 0 where
  pub first : Operation
  pub second : Operation
  pub first_is : Is t i first
  pub second_is : Is t j second
  pub first_writes : is_write first ≡ true
  pub second_writes : is_write second ≡ true
  pub variable : first.variable ≡ second.variable
  pub different : i ≡ j → ⊥

-- the model below, with every two writes of one variable required alike as well
abbrev pub agreement : Meaning → Meaning
agreement m = record { views = m.views; holds = m.holds; before = m.before; alike = λ t i j. m.alike t i j ⊎ SameVariable t i j }

-- every view of every trace holds every write
abbrev pub HoldsWrites : Meaning → Type 0
HoldsWrites m = (t : Trace) (k i : ℕ) → View m t k → Write t i → m.holds t k i

-- both layers keep the laws

names_grow : (t u : Trace) → Prefix t u → (i j : ℕ) → Names t i j → Names u i j
names_grow t u p i j n =
    record {
      read = n.read;
      is = is_grows t u p j n.read n.is;
      reads = n.reads;
      source = n.source;
      write = (n.write.0, is_grows t u p i n.write.0 n.write.1, n.write.2);
    }

pub step_there : (m : Meaning) → Laws m → (t : Trace) (i j : ℕ) → Step m t i j → There t i × There t j
step_there m l t i j (inl b) = l.ordered t i j b
step_there m l t i j (inr n) = (is_there t i n.write.0 n.write.1, is_there t j n.read n.is)

chain_there : (m : Meaning) → Laws m → (t : Trace) {i j : ℕ} → Chain (Step m t) i j → There t i × There t j
chain_there m l t {i} {j} (one s) = step_there m l t i j s
chain_there m l t {i} {j} (more {k = k} s c) = ((step_there m l t i k s).0, (chain_there m l t c).1)

pub write_into_laws : (m : Meaning) → Laws m → Laws (write_into m)
write_into_laws m l =
    record {
      few = l.few;
      told = l.told;
      held = l.held;
      ordered = λ t i j c. chain_there m l t c;
      agreed = l.agreed;
      either = l.either;
      sources = l.sources;
      grows = λ t u ct cu p.
          let g = l.grows t u ct cu p in
          record {
            holds = g.holds;
            before = λ i j c. chain_map (λ a b s. ⊎_elim (λ x. inl (g.before a b x)) (λ x. inr (names_grow t u p a b x)) s) c;
            alike = g.alike;
          };
    }

turned : (t : Trace) (i j : ℕ) → SameVariable t i j → SameVariable t j i
turned t i j s =
    record {
      first = s.second;
      second = s.first;
      first_is = s.second_is;
      second_is = s.first_is;
      first_writes = s.second_writes;
      second_writes = s.first_writes;
      variable = sym s.variable;
      different = λ e. s.different (sym e);
    }

same_grows : (t u : Trace) → Prefix t u → (i j : ℕ) → SameVariable t i j → SameVariable u i j
same_grows t u p i j s =
    record {
      first = s.first;
      second = s.second;
      first_is = is_grows t u p i s.first s.first_is;
      second_is = is_grows t u p j s.second s.second_is;
      first_writes = s.first_writes;
      second_writes = s.second_writes;
      variable = s.variable;
      different = s.different;
    }

pub agreement_laws : (m : Meaning) → Laws m → Laws (agreement m)
agreement_laws m l =
    record {
      few = l.few;
      told = l.told;
      held = l.held;
      ordered = l.ordered;
      agreed = λ t i j a. ⊎_elim (l.agreed t i j) (λ s. ((s.first, s.first_is, s.first_writes), (s.second, s.second_is, s.second_writes))) a;
      either = λ t i j a. ⊎_elim (λ x. inl (l.either t i j x)) (λ s. inr (turned t i j s)) a;
      sources = l.sources;
      grows = λ t u ct cu p.
          let g = l.grows t u ct cu p in
          record { holds = g.holds; before = g.before; alike = λ i j a. ⊎_elim (λ x. inl (g.alike i j x)) (λ s. inr (same_grows t u p i j s)) a };
    }
