-- A judgement of bodies, and the program that decides it.
use Rattle.capture3.proofs.Common.{◌≡◌, ℕ, List, Result, Ok, Err, refl, inl, inr, Stop, AreBytes, Judge, Judgement, IsJudgedOnce}

pub record Judged (M : Type 0) : Type 1 where
  pub says : Judgement M
  pub decide : Judge M
  pub accepts : (before : List M) (body : List ℕ) (m : M) → says.accepts before body m
      → decide before body ≡ Ok m
  pub refuses : (before : List M) (body : List ℕ) (stop : Stop) → says.refuses before body stop
      → decide before body ≡ Err stop
  pub accepted : (before : List M) (body : List ℕ) (m : M) → AreBytes body
      → decide before body ≡ Ok m → says.accepts before body m
  pub refused : (before : List M) (body : List ℕ) (stop : Stop) → AreBytes body
      → decide before body ≡ Err stop → says.refuses before body stop

-- by what a result is
pub by_result : {X E P : Type 0} (r : Result X E) → ((x : X) → r ≡ Ok x → P)
    → ((e : E) → r ≡ Err e → P) → P
by_result (Ok x) ok err = ok x refl
by_result (Err e) ok err = err e refl

-- what is decided by a program is so in one way
pub is_judged_once : {M : Type 0} (judge : Judged M) (before : List M) (body : List ℕ)
    → AreBytes body → IsJudgedOnce judge.says before body
is_judged_once {M} judge before body are = record {
  one =
      by_result (judge.decide before body)
      (λ m e. inl (m, judge.accepted before body m are e))
      (λ stop e. inr (stop, judge.refused before body stop are e));
  not_both =
      λ m stop a r. let x =
      judge.accepts before body m a in let y = judge.refuses before body stop r in cc;
  same_message =
      λ m n a b. let x =
      judge.accepts before body m a in let y = judge.accepts before body n b in cc;
  same_fault =
      λ stop other a b. let x =
      judge.refuses before body stop a in let y = judge.refuses before body other b in cc;
}
