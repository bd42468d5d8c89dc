-- What is asked of the later views grows with each rank of a finished list.
use Rattle.std.proofs.Common.{◌≡◌, ℕ, ◌<◌, Bool, true, false, ◌&&◌, ◌||◌, eqb, ◌⊎◌, List, [], ◌∷◌, ◌++◌, length, set, sym, refl, ap, ◌∙◌, inl, inr}
use Rattle.std.proofs.lemmas.List.{get_or-set_same, get_or-set_other}
use Rattle.std.proofs.lemmas.Bool.{cases_eq, eq-eqb, ne_eqb}
use Rattle.opset.specs.declared.OpSet.{OpSet}
use Rattle.opset.specs.Sets.{has}
use Rattle.search.specs.declared.tables.Tables.{Tables}
use Rattle.search.specs.Steps.{is_in, precedes, asks, asks_more}
use Rattle.search.proofs.Lists.{precedes_push}

spread : (n a p m : Bool) → ((n || (a && p)) || (a && m)) ≡ (n || (a && (p || (m && true))))
spread true a p m = refl
spread false true true m = refl
spread false true false true = refl
spread false true false false = refl
spread false false p m = refl

kept : (n a p m : Bool) → (n || (a && p)) ≡ (n || (a && (p || (m && false))))
kept true a p m = refl
kept false true true m = refl
kept false true false true = refl
kept false true false false = refl
kept false false p m = refl

none_so_far : (n a : Bool) → n ≡ (n || (a && false))
none_so_far true a = refl
none_so_far false true = refl
none_so_far false false = refl

pub enlarged_none : (tables : Tables) (needs : ℕ → ℕ → Bool) (i j : ℕ) → needs i j ≡ asks_more tables needs [] i j
enlarged_none tables needs i j = none_so_far (needs i j) (asks tables.alike i j)

pub enlarged_more : (tables : Tables) (needs : ℕ → ℕ → Bool) (o : List ℕ) (rows : List OpSet) (seen grown : OpSet) (x : ℕ)
    → x < length rows → ((j : ℕ) → has seen j ≡ is_in j o) → ((i j : ℕ) → asks rows i j ≡ asks_more tables needs o i j)
    → ((j : ℕ) → has grown j ≡ (asks rows x j || (asks tables.alike x j && has seen j)))
    → (i j : ℕ) → asks (set rows x grown) i j ≡ asks_more tables needs (o ++ x ∷ []) i j
enlarged_more tables needs o rows seen grown x l saw told grows i j = go (cases_eq i x)
  where
    at : (b : Bool) → eqb x i ≡ b → asks_more tables needs (o ++ x ∷ []) i j ≡ (needs i j || (asks tables.alike i j && (precedes o j i || (is_in j o && b))))
    at b e = ap (λ (y : Bool). needs i j || (asks tables.alike i j && y)) (precedes_push j i x o ∙ ap (λ (y : Bool). precedes o j i || (is_in j o && y)) e)

    go : (i ≡ x) ⊎ (i ≡ x → ⊥) → asks (set rows x grown) i j ≡ asks_more tables needs (o ++ x ∷ []) i j
    go (inl e) =
        let here : asks (set rows x grown) i j ≡ (asks rows i j || (asks tables.alike i j && is_in j o)) =
        ap (λ (k : ℕ). asks (set rows x grown) k j) e ∙ ap (λ (s : OpSet). has s j) (get_or-set_same rows x grown (record { 0 = 0 }) l) ∙ grows j
        ∙ ap (λ (b : Bool). asks rows x j || (asks tables.alike x j && b)) (saw j) ∙ ap (λ (k : ℕ). asks rows k j || (asks tables.alike k j && is_in j o)) (sym e) in
        here ∙ ap (λ (b : Bool). b || (asks tables.alike i j && is_in j o)) (told i j) ∙ spread (needs i j) (asks tables.alike i j) (precedes o j i) (is_in j o) ∙ sym (at true (eq-eqb x i (sym e)))
    go (inr d) =
        ap (λ (s : OpSet). has s j) (get_or-set_other rows x i grown (record { 0 = 0 }) d) ∙ told i j ∙ kept (needs i j) (asks tables.alike i j) (precedes o j i) (is_in j o)
        ∙ sym (at false (ne_eqb x i (λ e. d (sym e))))
