-- The calls for the views: one more at a time, and what they leave.
use Rattle.std.proofs.Common.{◌≡◌, ℕ, zero, suc, ◌+◌, ◌<◌, false, List, [], ◌∷◌, ◌++◌, length, take, Some, vec_items, sym, refl, ap, ◌∙◌, subst, arith}
use Rattle.std.specs.Global.{Vec}
use Rattle.std.specs.List.{slice_get}
use Rattle.std.proofs.lemmas.List.{length_push}
use Rattle.trace.specs.Traces.{Trace, Complete, empty_trace}
use Rattle.trace_file.specs.declared.changes.Change.TheVariants.{Load}
use Rattle.trace_file.specs.Reading.{good, read_file, load_after}
use Rattle.trace_file.specs.Made.{made}
use Rattle.models.specs.Meaning.{Meaning}
use Rattle.orders.specs.Orders.{Legal}
use Rattle.judge.specs.declared.calls.Call.{Call}
use Rattle.judge.specs.declared.calls.Call.TheVariants as call
use Rattle.judge.specs.Runs.{changes_in, trace_after, changes, Stands}
use Rattle.judge_text.specs.Asked.{AsksView, AskViews, Asked}

views_more : (k : ℕ) (calls : List Call) (c : Call) → AskViews k calls → AsksView (k + length calls) c → AskViews k (calls ++ c ∷ [])
views_more k [] c h v = (subst (λ j. AsksView j c) (omega arith) v, tt)
views_more k (x ∷ calls) c h v = (h.0, views_more (suc k) calls c h.1 (subst (λ j. AsksView j c) (omega arith) v))

pub asked_more : (file : List ℕ) (n k next : ℕ) (calls more : List Call) (c : Call) → Asked file n calls → AsksView k c → k ≡ n + 1 → next ≡ k → more ≡ calls ++ c ∷ [] → Asked file next more
asked_more file n k next calls more c a v at same e =
    record {
      bytes = a.bytes;
      loads = a.loads;
      views = a.views ++ c ∷ [];
      are = e ∙ ap (λ l. l ++ c ∷ []) a.are;
      count = omega (arith, length_push a.views c, a.count);
      each = views_more 1 a.views c a.each (subst (λ j. AsksView j c) (omega (arith, a.count)) v);
    }

-- the calls for the views, looked at

pub views_at : (k : ℕ) (calls : List Call) → AskViews k calls → (n : ℕ) (c : Call) → slice_get calls n ≡ Some c → AsksView (k + n) c
views_at k [] h n c e = cc
views_at k (x ∷ calls) h zero c e = let same : x ≡ c = cc in subst (λ j. AsksView j c) (omega arith) (subst (AsksView k) same h.0)
views_at k (x ∷ calls) h (suc n) c e = subst (λ j. AsksView j c) (omega arith) (views_at (suc k) calls h.1 n c e)

views_take : (k : ℕ) (calls : List Call) (n : ℕ) → AskViews k calls → AskViews k (take n calls)
views_take k calls zero h = tt
views_take k [] (suc n) h = tt
views_take k (x ∷ calls) (suc n) h = (h.0, views_take (suc k) calls n h.1)

views_still : (k : ℕ) (calls : List Call) → AskViews k calls → changes_in calls ≡ []
views_still k [] h = refl
views_still k (x ∷ calls) h = ap (λ c. changes_in (c ∷ calls)) h.0.is ∙ views_still (suc k) calls h.1

-- after a file's trace is loaded and judged, views change nothing
module _ (m : Meaning) (t : Trace) (bytes : Vec ℕ) (read : read_file (vec_items bytes) ≡ good t) (views : List Call) (asks : AskViews 1 views) (n : ℕ) where
  pub trace_then : trace_after (call.Change (Load bytes) ∷ call.Judge ∷ take n views) ≡ t
  trace_then = ap (λ cs. made (Load bytes ∷ cs)) (views_still 1 (take n views) (views_take 1 views n asks)) ∙ ap (load_after (empty_trace 1 1)) read

  kept : (u : Trace) (j : ℕ) (c : Call) → 1 < j → slice_get (call.Change (Load bytes) ∷ call.Judge ∷ take n views) j ≡ Some c → changes u c ≡ false
  kept u zero c l e = absurd (omega (arith, l))
  kept u (suc zero) c l e = absurd (omega (arith, l))
  kept u (suc (suc j)) c l e = ap (changes u) (views_at 1 (take n views) (views_take 1 views n asks) j c e).is

  pub stands_then : Complete t → Legal m t → Stands m (call.Change (Load bytes) ∷ call.Judge ∷ take n views)
  stands_then complete legal =
      let loaded : load_after (empty_trace 1 1) (read_file (vec_items bytes)) ≡ t = ap (load_after (empty_trace 1 1)) read in
      record { since = 1; asked = refl; complete = subst Complete (sym loaded) complete; legal = subst (Legal m) (sym loaded) legal; kept = λ j c l e. kept (trace_after (take j (call.Change (Load bytes) ∷ call.Judge ∷ take n views))) j c l e }
