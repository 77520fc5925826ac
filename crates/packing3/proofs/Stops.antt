-- Where packing has stopped, in a part of the bytes and in the whole.
use Rattle.packing3.proofs.Common.{◌≡◌, ℕ, ◌+◌, List, ◌++◌, length, length-append, ap, refl, sym, subst, ◌∙◌, append_assoc, arith, Option, Appends, Appends-trans, Error, chunk_bytes, AppendsFront, Explains, IsStopped}
use Rattle.std.specs.Prelude.{replicate, suc, zero}
use Rattle.std.specs.List.{flat_map}
use Rattle.xdr3.specs.Item.{word_bytes}
use Rattle.capture3.specs.declared.fault.Error.TheVariants as errors

one_word_more : (words : ℕ) → flat_map word_bytes (replicate words 0) ++ word_bytes 0
    ≡ flat_map word_bytes (replicate (suc words) 0)
one_word_more zero = refl
one_word_more (suc words) =
    append_assoc (word_bytes 0) (flat_map word_bytes (replicate words 0)) (word_bytes 0)
    ∙ ap (λ (l : List ℕ). word_bytes 0 ++ l) (one_word_more words)

-- one word 0 more comes at the end
pub explains_with : (error : Error) (at total : ℕ) (next : List ℕ) → Explains error at next total
    → Explains error at (next ++ word_bytes 0) total
explains_with (errors.Refused fault) at total next observed = record {
  chunk = observed.chunk;
  words = suc observed.words;
  begins =
      ap (λ (l : List ℕ). l ++ word_bytes 0) observed.begins
      ∙ append_assoc (chunk_bytes observed.chunk)
      (flat_map word_bytes (replicate observed.words 0)) (word_bytes 0)
      ∙ ap (λ (l : List ℕ). chunk_bytes observed.chunk ++ l) (one_word_more observed.words);
  over = observed.over;
  within = observed.within;
  is = observed.is;
}
explains_with errors.Read at total next observed = tt
explains_with errors.Write at total next observed = tt
explains_with errors.Memory at total next observed = absurd observed

pub stopped_before : (old new : Option (List ℕ)) (bytes : List ℕ) (at total : ℕ) (error : Error)
    → IsStopped old new bytes at total error
    → IsStopped old new (bytes ++ word_bytes 0) at total error
stopped_before old new bytes at total error s = record {
  front = s.front;
  next = s.next ++ word_bytes 0;
  split =
      ap (λ (l : List ℕ). l ++ word_bytes 0) s.split ∙ append_assoc s.front s.next (word_bytes 0);
  appended = s.appended;
  observed = explains_with error (at + length s.front) total s.next s.observed;
}

-- what was written before stands at the front
pub stopped_after : (first old new : Option (List ℕ)) (done bytes : List ℕ) (start at total : ℕ)
    (error : Error) → Appends first old done → at ≡ start + length done
    → IsStopped old new bytes at total error → IsStopped first new (done ++ bytes) start total error
stopped_after first old new done bytes start at total error before is s = record {
  front = done ++ s.front;
  next = s.next;
  split = ap (λ (l : List ℕ). done ++ l) s.split ∙ sym (append_assoc done s.front s.next);
  appended = Appends-trans first old new done s.front before s.appended;
  observed =
      subst (λ n. Explains error n s.next total) (omega (arith, length-append done s.front, is))
      s.observed;
}

pub stopped_writing : (old new : Option (List ℕ)) (bytes : List ℕ) (at total : ℕ) (error : Error)
    → error ≡ errors.Write → AppendsFront old new bytes → IsStopped old new bytes at total error
stopped_writing old new bytes at total error is (front, back, split, appended) =
    record {
      front = front;
      next = back;
      split = split;
      appended = appended;
      observed = subst (λ e. Explains e (at + length front) back total) (sym is) tt;
    }
