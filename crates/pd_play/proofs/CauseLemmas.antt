-- Faults of a run, step by step.
use Rattle.std.proofs.Common.{◌≤◌, ◌⊎◌, ℕ, Option, inl, inr, arith}
use Rattle.pd_io.specs.Faults.{Rose}
use Rattle.pd_play.specs.Causes.{HasRunCauses}
use Rattle.pd_play.specs.declared.status.Status.{Status}

pub rose_on : (a b c : ℕ) → a ≤ b → Rose b c → Rose a c
rose_on a b c l (inl h) = inl (omega (arith, l, h))
rose_on a b c l (inr h) = inr h

either_on : (l m n p q r : ℕ) → l ≤ m → p ≤ q → Rose m n ⊎ Rose q r → Rose l n ⊎ Rose p r
either_on l m n p q r a b (inl h) = inl (rose_on l m n a h)
either_on l m n p q r a b (inr h) = inr (rose_on p q r b h)

-- a count that rose in the last step rose in the whole
pub whole_causes : (s t u l m n p q r : ℕ) (ends : Option Status) → s ≤ t → l ≤ m → p ≤ q → HasRunCauses t u m n q r ends → HasRunCauses s u l n p r ends
whole_causes s t u l m n p q r ends a b c h =
    let script = h.script_counted in
    let lines = h.lines_counted in
    let pcm = h.pcm_counted in
    record {
      read = λ e. rose_on s t u a (h.read e);
      write = λ e. either_on l m n p q r b c (h.write e);
      usage = h.usage;
      absent = h.absent;
      shelf = h.shelf;
      memory = h.memory;
      script_counted = omega (arith, a, script);
      lines_counted = omega (arith, b, lines);
      pcm_counted = omega (arith, c, pcm);
    }
