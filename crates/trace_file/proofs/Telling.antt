-- What the reader promises, once its answer is the reading of the bytes.
use Rattle.std.proofs.Common.{◌≡◌, ℕ, List, Ok, Err, Result, sym, refl, ap, ◌∙◌, subst, arith}
use Rattle.std.proofs.lemmas.Bool.{false≢true}
use Rattle.trace.specs.declared.table.Table.{Table}
use Rattle.trace.specs.Traces.{Trace}
use Rattle.trace_file.specs.declared.faults.FileFault.{FileFault}
use Rattle.trace_file.specs.Faults.{file_number, file_place}
use Rattle.trace_file.specs.Files.{IsFile}
use Rattle.trace_file.specs.Reading.{good, faulty, read_file}
use Rattle.trace_file.specs.Outcomes.{reading_of, FileRead}
use Rattle.trace_file.proofs.Forms.{Bytes}
use Rattle.trace_file.proofs.Sound.{Says, says}
use Rattle.trace_file.proofs.Back.{read_back}
use Rattle.trace_file.proofs.Enough.{enough}

never_both : (t : Trace) (n place : ℕ) → good t ≡ faulty n place → ⊥
never_both t n place e = let z : ◌≡◌ {A = ℕ} 0 1 = cc in omega arith

no_file : (bytes : List ℕ) (n place : ℕ) → faulty n place ≡ read_file bytes → IsFile bytes → ⊥
no_file bytes n place e (t, w, f) = never_both t n place (sym (read_back t w) ∙ ap read_file f ∙ sym e)

pub file_read : (bytes : List ℕ) (r : Result Table FileFault) → Bytes bytes → reading_of r ≡ read_file bytes → FileRead bytes r
file_read bytes (Ok t) small e =
    let s = subst (Says bytes) (sym e) (says bytes small) in
    record { answer = e; exactly = (λ _. (t, s.0, s.1), λ _. refl); same = s.1; fault = tt; enough = enough bytes }
file_read bytes (Err f) small e =
    record {
      answer = e;
      exactly = (λ b. absurd (false≢true b), λ h. absurd (no_file bytes (file_number f) (file_place f) e h));
      same = tt;
      fault = subst (Says bytes) (sym e) (says bytes small);
      enough = enough bytes;
    }
