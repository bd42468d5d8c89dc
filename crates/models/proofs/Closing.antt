-- Warshall's closure, over tests: what is reached through ranks below n, and then through any rank.
use Rattle.std.proofs.Common.{◌≡◌, ℕ, zero, suc, ◌<◌, ◌≤◌, Bool, true, ◌&&◌, ◌||◌, ◌⊎◌, List, length, Decides, sym, subst, inl, inr, ⊎_elim, arith}
use Rattle.std.proofs.lemmas.Bool.Decides.{Decides-at}
use Rattle.std.proofs.lemmas.Bool.{cases_eq, or_cases, or_left, or_right, and_parts, and_from}
use Rattle.opset.specs.declared.OpSet.{OpSet}
use Rattle.opset.specs.Sets.{has}
use Rattle.models.specs.Rows.{row_at, Edge, Closed}
use Rattle.models.specs.Chains.{Chain, one, more, chained}

module _ (rows : List OpSet) where
  -- rank i is in row j
  abbrev edge : ℕ → ℕ → Bool
  edge i j = has (row_at rows j) i

  -- j is reached from i through ranks below n
  abbrev pub reached : ℕ → ℕ → ℕ → Bool
  reached zero i j = edge i j
  reached (suc n) i j = reached n i j || (reached n n j && reached n i n)

  reached_chain : (n i j : ℕ) → n ≤ 64 → i < 64 → j < 64 → reached n i j ≡ true → Chain (Edge rows) i j
  reached_chain zero i j h li lj e = one (record { from = li; to = lj; is = e })
  reached_chain (suc n) i j h li lj e =
      ⊎_elim
      (λ b. reached_chain n i j (omega arith) li lj b)
      (λ b. let w = and_parts (reached n n j) (reached n i n) b in chained (reached_chain n i n (omega arith) li (omega arith) w.1) (reached_chain n n j (omega arith) (omega arith) lj w.0))
      (or_cases (reached n i j) (reached n n j && reached n i n) e)

  -- a chain whose ranks between the ends are all below n
  data Below (n : ℕ) : ℕ → ℕ → Type 0 where
    direct : {i j : ℕ} → edge i j ≡ true → Below n i j
    through : {i k j : ℕ} → edge i k ≡ true → k < n → Below n k j → Below n i j

  parted : (n : ℕ) {i j : ℕ} → Below (suc n) i j → Below n i j ⊎ (Below n i n × Below n n j)
  parted n (direct e) = inl (direct e)
  parted n {i} {j} (through {k = k} e h c) =
      ⊎_elim
      (λ s. let d : edge i n ≡ true = subst (λ x. edge i x ≡ true) s e in
      inr (direct d, ⊎_elim (λ a. subst (λ x. Below n x j) s a) (λ b. b.1) (parted n c)))
      (λ ne. ⊎_elim (λ a. inl (through e (omega arith) a)) (λ b. inr (through e (omega arith) b.0, b.1)) (parted n c))
      (cases_eq k n)

  below_reached : (n i j : ℕ) → Below n i j → reached n i j ≡ true
  below_reached zero i j (direct e) = e
  below_reached zero i j (through e h c) = absurd (omega arith)
  below_reached (suc n) i j c =
      ⊎_elim
      (λ a. or_left (reached n i j) (reached n n j && reached n i n) (below_reached n i j a))
      (λ b. or_right (reached n i j) (reached n n j && reached n i n) (and_from (reached n n j) (reached n i n) (below_reached n n j b.1) (below_reached n i n b.0)))
      (parted n c)

  chain_below : {i j : ℕ} → Chain (Edge rows) i j → Below 64 i j
  chain_below (one s) = direct s.is
  chain_below (more s c) = through s.is s.to (chain_below c)

  -- through all 64 ranks, what is reached is the transitive closure
  pub decides_chain : (n i j : ℕ) → n ≡ 64 → i < 64 → j < 64 → Decides (reached n i j) (Chain (Edge rows) i j)
  decides_chain n i j e li lj = (reached_chain n i j (omega arith) li lj, λ c. below_reached n i j (subst (λ k. Below k i j) (sym e) (chain_below c)))

  -- a table that has what is reached through ranks below n
  pub record Reaching (n : ℕ) (now : List OpSet) : Type 0 where
    pub long : length now ≡ length rows
    pub each : (i j : ℕ) → i < 64 → j < 64 → has (row_at now j) i ≡ reached n i j

  pub reaching_all : (n : ℕ) (now : List OpSet) → n ≡ 64 → Reaching n now → Closed rows now
  reaching_all n now e r i j li lj = Decides-at _ (reached n i j) (r.each i j li lj) (decides_chain n i j e li lj)
