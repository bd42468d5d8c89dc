use Rattle.std.proofs.Common.{◌≡◌, ℕ, ◌+◌, ◌-◌, ◌≤◌, List, length, Ok, Err, Result, sym, refl, ap, ◌∙◌, subst, arith, rules}
use Rattle.std.specs.List.{between}
use Rattle.std.proofs.lemmas.List.{take_rest}
use Rattle.std.proofs.lemmas.Result.{err_from_is_err_and}
use Rattle.trace_file.specs.declared.faults.FileFault.TheVariants.{Size, Section, LeftOver}
use Rattle.trace.specs.Traces.{Trace}
use Rattle.trace_file.specs.declared.faults.SectionFault.{SectionFault}
use Rattle.trace_file.specs.Reading.{read_section, read_file}
use Rattle.trace_file.specs.Outcomes.{placed, SectionRead, reading_of}
use Rattle.trace_file.proofs.Telling.{file_read}
use Rattle.trace_file.proofs.Steps.{Sectioning, placed_err, section_next, section_faulty, file_over, file_ends}
use Rattle.trace_file.proofs.reader.read.Goals as goal
use Rattle.trace_file.proofs.reader.read.Goals.{else-loop-section-test, then-loop-section-test+in_ok-start+else-section-processors}

pub returns-in_err-processors-clause-file : goal.returns-in_err-processors-clause-file
returns-in_err-processors-clause-file c =
    let e : reading_of c.from_residual.result ≡ read_file c.args.bytes.now = search rules in
    file_read c.args.bytes.now _ (λ k. (c.type_inv.bytes k).fits) e

pub returns-in_default-clause-file : goal.returns-in_default-clause-file
returns-in_default-clause-file c =
    let e : reading_of (Err Size) ≡ read_file c.args.bytes.now = search rules in
    file_read c.args.bytes.now (Err Size) (λ k. (c.type_inv.bytes k).fits) e

pub returns-in_err-start-clause-file : goal.returns-in_err-start-clause-file
returns-in_err-start-clause-file c =
    let b = c.args.bytes.now in
    let s = c.loop-section.section in
    let before : s - 1 + 1 ≡ s = omega (arith, c.loop-section.auto.section) in
    let t = c.loop-section.table in
    let p = err_from_is_err_and c.from_residual-in_err-start.result c.from_residual-in_err-start.ensures.1 in
    let q = placed_err s c.read_section.result c.in_err-start.field-0.0 c.in_err-start.ensures in
    let e = subst (λ r. SectionRead t s (between c.loop-section.start (length b) b) r c.read_section.new.table) q.1 c.read_section.ensures in
    file_read b _ (λ k. (c.type_inv.bytes k).fits)
    (ap reading_of (p.1 ∙ ap Err (p.2 ∙ ap Section q.2))
    ∙ sym (section_faulty b _ t _ _ c.loop-section.invariant s q.0 before c.loop-section-test.true (ap (read_section t s) (sym (take_rest b c.loop-section.start)) ∙ e)))

-- one section more
module _ (b : List ℕ) (count : ℕ) (t u : Trace) (s start n : ℕ) (r : Result ℕ SectionFault) (v : Sectioning b count t (s - 1) start) (some : 1 ≤ s) (high : s ≤ count)
    (is : Ok n ≡ placed s r) (read : SectionRead t s (between start (length b) b) r u) where
  next_one : Sectioning b count u s (start + n)
  next_one = section_next b count t (s - 1) start v s n u r (omega (arith, some)) high is (subst (λ tail. SectionRead t s tail r u) (take_rest b start) read)

pub loop-section-preserved : goal.loop-section-preserved
loop-section-preserved c =
    let s = c.loop-section.section in
    let again : s ≡ s + 1 - 1 = omega (arith, c.loop-section.auto.section) in
    subst (λ k. Sectioning c.args.bytes.now c.in_ok-processors.processors c.read_section.new.table k (c.loop-section.start + c.in_ok-start.field-0)) again
    (next_one _ _ _ _ s _ _ _ c.loop-section.invariant c.loop-section.auto.section c.loop-section-test.true c.in_ok-start.ensures c.read_section.ensures)

pub returns-then-start-bytes-clause-file : goal.returns-then-start-bytes-clause-file
returns-then-start-bytes-clause-file c =
    let b = c.args.bytes.now in
    let p = c.in_ok-processors.processors in
    let s = c.loop-section.section in
    let ended : Sectioning b p c.loop-section-test.table p c.loop-section-test.start =
    elim c.loop-section-test.branch [
      | else-loop-section-test w ↦
          let all : s - 1 ≡ p = omega (arith, w.loop-section-test.false, c.loop-section.invariant.turns) in
          rw (w.table-is, w.start-is) (subst (λ k. Sectioning b p c.loop-section.table k c.loop-section.start) all c.loop-section.invariant)
      | then-loop-section-test+in_ok-start+else-section-processors w ↦
          let all : s ≡ p = omega (arith, w.loop-section-test.true) in
          rw (w.table-is, w.start-is)
          (subst (λ k. Sectioning b p w.read_section.new.table k (c.loop-section.start + w.in_ok-start.field-0)) all
          (next_one _ _ _ _ s _ _ _ c.loop-section.invariant c.loop-section.auto.section w.loop-section-test.true w.in_ok-start.ensures w.read_section.ensures))
    ]
    in
    file_read b (Err LeftOver) (λ k. (c.type_inv.bytes k).fits) (sym (file_over _ _ _ _ _ ended refl c.if-start-bytes.true))

pub returns-clause-file : goal.returns-clause-file
returns-clause-file c =
    let b = c.args.bytes.now in
    let p = c.in_ok-processors.processors in
    let s = c.loop-section.section in
    let ended : Sectioning b p c.loop-section-test.table p c.loop-section-test.start =
    elim c.loop-section-test.branch [
      | else-loop-section-test w ↦
          let all : s - 1 ≡ p = omega (arith, w.loop-section-test.false, c.loop-section.invariant.turns) in
          rw (w.table-is, w.start-is) (subst (λ k. Sectioning b p c.loop-section.table k c.loop-section.start) all c.loop-section.invariant)
      | then-loop-section-test+in_ok-start+else-section-processors w ↦
          let all : s ≡ p = omega (arith, w.loop-section-test.true) in
          rw (w.table-is, w.start-is)
          (subst (λ k. Sectioning b p w.read_section.new.table k (c.loop-section.start + w.in_ok-start.field-0)) all
          (next_one _ _ _ _ s _ _ _ c.loop-section.invariant c.loop-section.auto.section w.loop-section-test.true w.in_ok-start.ensures w.read_section.ensures))
    ]
    in
    file_read b (Ok c.loop-section-test.table) (λ k. (c.type_inv.bytes k).fits) (sym (file_ends _ _ _ _ _ ended refl c.if-start-bytes.false))
