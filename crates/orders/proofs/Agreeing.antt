-- A list that is gone through for what stands earlier in it than what, and the fourth clause by the tables of two lists.
use Rattle.std.proofs.Common.{◌≡◌, ℕ, ◌+◌, ◌<◌, ◌≤◌, Bool, true, false, ◌&&◌, ◌||◌, eqb, ltb, ◌⊎◌, List, [], ◌∷◌, ◌++◌, length, get_or, take, set, replicate, Decides, sym, refl, ap, ◌∙◌, subst, inl, inr, ⊎_elim, arith}
use Rattle.std.proofs.lemmas.List.{append_assoc, take_more, take_all, get_or-set_same, get_or-set_other, get_or-replicate, length-set, length-replicate}
use Rattle.std.proofs.lemmas.Bool.{both_ways, cases_lt, cases_eq, and_parts, and_from, or_cases, or_left, or_right}
use Rattle.opset.specs.declared.OpSet.{OpSet}
use Rattle.opset.specs.Sets.{has, Empty}
use Rattle.trace.specs.Traces.{Trace}
use Rattle.ranks.specs.Numbers.{numbers, number_at, RankOf, Unlisted, Numbers}
use Rattle.ranks.specs.declared.listing.Ranks.{Ranks}
use Rattle.models.specs.Meaning.{Meaning, Laws}
use Rattle.models.specs.Rows.{Row, Rows, row_at}
use Rattle.orders.specs.Lists.{Stands, Earlier}
use Rattle.orders.specs.Tables.{EarlierRows}
use Rattle.orders.specs.Orders.{Agrees}
use Rattle.orders.proofs.Places.{not_parted, stands_earlier, later_stands, earlier_front}
use Rattle.orders.proofs.Parting.{snoc_parted, one_rank, Seen, seen_none, seen_more, seen_skips, few_numbers, has_rank}

-- in a list with one number more: already earlier, or in front of that number
earlier_snoc : (xs : List ℕ) (x a b : ℕ) → Earlier (xs ++ x ∷ []) a b → Earlier xs a b ⊎ (Stands xs a × (b ≡ x))
earlier_snoc xs x a b e =
    ⊎_elim
    (λ h. inr (record { before = e.before; after = e.between; is = sym h.0 }, h.1))
    (λ h. inl (stands_earlier xs (e.before ++ a ∷ e.between) h.0 a b h.1 (record { before = e.before; after = e.between; is = refl })))
    (snoc_parted xs (e.before ++ a ∷ e.between) e.after x b (e.is ∙ sym (append_assoc e.before (a ∷ e.between) (b ∷ e.after))))

-- the first i numbers gone through: their table, and the set of their ranks
pub record Tabled (t : Trace) (list : List ℕ) (i : ℕ) (rows : List OpSet) (seen : OpSet) : Type 0 where
  pub long : length rows ≡ 64
  pub each : EarlierRows t (take i list) rows
  pub marked : Seen t (take i list) seen

module _ (t : Trace) (facts : Numbers t) where
  -- the row of the number that is added gains all that stands before it
  module _ (xs : List ℕ) (rows : List OpSet) (seen gained : OpSet) (number rank : ℕ) (low : rank < length rows) (each : EarlierRows t xs rows) (marked : Seen t xs seen) (at : RankOf (numbers t) number rank) (e : (k : ℕ) → has gained k ≡ (has (row_at rows rank) k || has seen k)) where
    gained_row : EarlierRows t (xs ++ number ∷ []) (set rows rank gained)
    gained_row i j li lj =
        ⊎_elim
        (λ same.
        let row : has (row_at (set rows rank gained) j) i ≡ (has (row_at rows j) i || has seen i) = ap (λ r. has (row_at (set rows rank gained) r) i) same ∙ ap (λ z. has z i) (get_or-set_same rows rank gained (record { 0 = 0 }) low) ∙ e i ∙ ap (λ r. has (row_at rows r) i || has seen i) (sym same) in
        let here : number_at (numbers t) j ≡ number = ap (number_at (numbers t)) same ∙ at.at in (
          λ b.
              ⊎_elim
              (λ old. earlier_front (xs ++ number ∷ []) xs (number ∷ []) (number_at (numbers t) i) (number_at (numbers t) j) refl ((each i j li lj).0 old))
              (λ new. stands_earlier (xs ++ number ∷ []) xs [] (number_at (numbers t) i) (number_at (numbers t) j) (ap (λ z. xs ++ z ∷ []) (sym here)) ((marked.each i li).0 new))
              (or_cases (has (row_at rows j) i) (has seen i) (sym row ∙ b)),
          λ h.
              row ∙
              ⊎_elim
              (λ old. or_left (has (row_at rows j) i) (has seen i) ((each i j li lj).1 old))
              (λ new. or_right (has (row_at rows j) i) (has seen i) ((marked.each i li).1 new.0))
              (earlier_snoc xs number (number_at (numbers t) i) (number_at (numbers t) j) h),
        ))
        (λ other.
        let row : has (row_at (set rows rank gained) j) i ≡ has (row_at rows j) i = ap (λ z. has z i) (get_or-set_other rows rank j gained (record { 0 = 0 }) other) in (
          λ b. earlier_front (xs ++ number ∷ []) xs (number ∷ []) (number_at (numbers t) i) (number_at (numbers t) j) refl ((each i j li lj).0 (sym row ∙ b)),
          λ h.
              row ∙
              ⊎_elim
              (each i j li lj).1
              (λ new. absurd (other (one_rank t facts j rank lj at.within (new.1 ∙ sym at.at))))
              (earlier_snoc xs number (number_at (numbers t) i) (number_at (numbers t) j) h),
        ))
        (cases_eq j rank)

  -- no row is that of a number of no operation
  skipped_row : (xs : List ℕ) (rows : List OpSet) (number : ℕ) → EarlierRows t xs rows → Unlisted (numbers t) number → EarlierRows t (xs ++ number ∷ []) rows
  skipped_row xs rows number each none i j li lj = (
    λ b. earlier_front (xs ++ number ∷ []) xs (number ∷ []) (number_at (numbers t) i) (number_at (numbers t) j) refl ((each i j li lj).0 b),
    λ h. ⊎_elim (each i j li lj).1 (λ new. absurd (none j (record { within = lj; at = new.1 }))) (earlier_snoc xs number (number_at (numbers t) i) (number_at (numbers t) j) h),
  )

  module _ (ranks : Ranks) (value : ranks ≡ numbers t) (list : List ℕ) where
    pub tabled_none : (none seen : OpSet) → Empty none → Empty seen → Tabled t list 0 (replicate 64 none) seen
    tabled_none none seen empty start =
        record {
          long = length-replicate 64 none;
          each = λ i j li lj. (
            λ b. absurd (both_ways (has (row_at (replicate 64 none) j) i) (ap (λ z. has z i) (get_or-replicate 64 j none (record { 0 = 0 }) (omega (arith, few_numbers t facts, lj))) ∙ empty i) b),
            λ h. let s = later_stands [] (number_at (numbers t) i) (number_at (numbers t) j) h in absurd (not_parted s.before s.after (number_at (numbers t) j) s.is),
          );
          marked = seen_none t facts seen start;
        }

    module _ (i : ℕ) (rows : List OpSet) (seen : OpSet) (l : i < length list) (sofar : Tabled t list i rows seen) where
      pub tabled_more : (gained next : OpSet) (rank : ℕ) (after : List OpSet) → RankOf ranks (get_or list i 0) rank → ((k : ℕ) → has gained k ≡ (has (row_at rows rank) k || has seen k)) → ((k : ℕ) → has next k ≡ (has seen k || (eqb k rank && ltb rank 64))) → after ≡ set rows rank gained → Tabled t list (i + 1) after next
      tabled_more gained next rank after there e f is =
          let at = subst (λ z. RankOf z (get_or list i 0) rank) value there in
          let low : rank < 64 = omega (arith, few_numbers t facts, at.within) in
          record {
            long = ap length is ∙ length-set rows rank gained ∙ sofar.long;
            each = subst (λ z. EarlierRows t z after) (sym (take_more list i 0 l)) (subst (EarlierRows t (take i list ++ get_or list i 0 ∷ [])) (sym is) (gained_row (take i list) rows seen gained (get_or list i 0) rank (omega (arith, low, sofar.long)) sofar.each sofar.marked at e));
            marked = subst (λ z. Seen t z next) (sym (take_more list i 0 l)) (seen_more t facts (take i list) seen next (get_or list i 0) rank low sofar.marked at f);
          }

      pub tabled_skips : (after : List OpSet) (next : OpSet) → Unlisted ranks (get_or list i 0) → after ≡ rows → next ≡ seen → Tabled t list (i + 1) after next
      tabled_skips after next unlisted is same =
          let none = subst (λ z. Unlisted z (get_or list i 0)) value unlisted in
          record {
            long = ap length is ∙ sofar.long;
            each = subst (λ z. EarlierRows t z after) (sym (take_more list i 0 l)) (skipped_row (take i list) after (get_or list i 0) (subst (EarlierRows t (take i list)) (sym is) sofar.each) none);
            marked = subst (λ z. Seen t z next) (sym (take_more list i 0 l)) (seen_skips t (take i list) next (get_or list i 0) (subst (Seen t (take i list)) (sym same) sofar.marked) none);
          }

pub tabled_all : (t : Trace) (list : List ℕ) (i : ℕ) (rows : List OpSet) (seen : OpSet) → length list ≤ i → Tabled t list i rows seen → EarlierRows t list rows
tabled_all t list i rows seen l sofar = subst (λ z. EarlierRows t z rows) (take_all i list l) sofar.each

-- what is required alike with operation j, and stands earlier in another list, stands earlier in the list
abbrev pub AgreesAt : Meaning → Trace → ℕ → List ℕ → List ℕ → ℕ → Type 0
AgreesAt m t b other list j = (i : ℕ) → m.alike t i j → m.holds t b i → m.holds t b j → Earlier other i j → Earlier list i j

-- it is so of the operations of the first n ranks
abbrev pub AgreesTo : Meaning → Trace → ℕ → List ℕ → List ℕ → ℕ → Type 0
AgreesTo m t b other list n = (r : ℕ) → r < n → AgreesAt m t b other list (number_at (numbers t) r)

module _ (m : Meaning) (laws : Laws m) (t : Trace) (facts : Numbers t) (ranks : Ranks) (value : ranks ≡ numbers t) (count : ℕ) (counted : count ≡ length ranks) (b : ℕ) (other list : List ℕ) where
  pub agrees_all : (n : ℕ) → count ≤ n → AgreesTo m t b other list n → Agrees m t b other list
  agrees_all n l all i j alike hi hj e =
      let r = facts.every j (laws.held t b j hj).1 in
      subst (AgreesAt m t b other list) r.1.at (all r.0 (omega (arith, l, counted, ap length value, r.1.within))) i alike hi hj e

  module _ (rank : ℕ) (low : rank < count) (sofar : AgreesTo m t b other list rank) where
    within : rank < length (numbers t)
    within = omega (arith, low, counted, ap length value)

    past : rank < 64
    past = omega (arith, within, few_numbers t facts)

    further : AgreesAt m t b other list (number_at (numbers t) rank) → AgreesTo m t b other list (rank + 1)
    further here r l = ⊎_elim (sofar r) (λ ge. let same : rank ≡ r = omega arith in subst (λ z. AgreesAt m t b other list (number_at (numbers t) z)) same here) (cases_lt r rank)

    module _ (held : OpSet) (row : Row (m.holds t b) (numbers t) held) where
      pub agrees_unheld : has held rank ≡ false → AgreesTo m t b other list (rank + 1)
      agrees_unheld not = further (λ i alike hi hj e. absurd (both_ways (has held rank) not ((row rank past).1 hj)))

      module _ (alike wanted earlier : List OpSet) (pairs : Rows (m.alike t) (numbers t) alike) (first : EarlierRows t other wanted) (second : EarlierRows t list earlier) (some partners : OpSet) (e : (k : ℕ) → has some k ≡ (has (row_at alike rank) k && has held k)) (f : (k : ℕ) → has partners k ≡ (has some k && has (row_at wanted rank) k)) (here : has held rank ≡ true) (answer : Bool) (told : Decides answer ((r : ℕ) → r < 64 → has partners r ≡ true → has (row_at earlier rank) r ≡ true)) where
        at_rank : Decides answer (AgreesAt m t b other list (number_at (numbers t) rank))
        at_rank = (
          λ yes i a hi hj before.
              let r = facts.every i (laws.held t b i hi).1 in
              let lr : r.0 < 64 = omega (arith, r.1.within, few_numbers t facts) in
              let j = number_at (numbers t) rank in
              let at = r.1.at in
              let one = and_from (has (row_at alike rank) r.0) (has held r.0) ((pairs rank past r.0 lr).1 (subst (λ z. m.alike t z j) (sym at) a)) ((row r.0 lr).1 (subst (m.holds t b) (sym at) hi)) in
              let two = and_from (has some r.0) (has (row_at wanted rank) r.0) (e r.0 ∙ one) ((first r.0 rank r.1.within within).1 (subst (λ z. Earlier other z j) (sym at) before)) in
              subst (λ z. Earlier list z j) at ((second r.0 rank r.1.within within).0 (told.0 yes r.0 lr (f r.0 ∙ two))),
          λ all.
              told.1 (λ k lk p.
              let two = and_parts (has some k) (has (row_at wanted rank) k) (sym (f k) ∙ p) in
              let one = and_parts (has (row_at alike rank) k) (has held k) (sym (e k) ∙ two.0) in
              let hi = (row k lk).0 one.1 in
              let l = has_rank t k (laws.held t b (number_at (numbers t) k) hi).1 in
              (second k rank l within).1 (all (number_at (numbers t) k) ((pairs rank past k lk).0 one.0) hi ((row rank past).0 here) ((first k rank l within).0 two.1))),
        )

        pub agrees_again : answer ≡ true → AgreesTo m t b other list (rank + 1)
        agrees_again is = further (at_rank.0 is)

        pub agrees_fails : answer ≡ false → Agrees m t b other list → ⊥
        agrees_fails not all = both_ways answer not (at_rank.1 (λ i. all i (number_at (numbers t) rank)))
