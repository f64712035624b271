-- How what is due and is read, is put together.
use Rattle.std.proofs.Common.{◌≡◌, ℕ, Bool, true, false, List, ◌∷◌, sym, subst}
use Rattle.algol_tree.specs.declared.token.Token.{Token}
use Rattle.algol_tree.specs.Due.{Value, value_put, Due, Turn, takes, makes, skips, closes, refuses, plain, nests, label, begun, followed, either}
use Rattle.algol_expr.proofs.Sound.{Leaves, left_out, makes_it}
use Rattle.algol_grammar.proofs.Meant.{Gives, gives, IsAll, in_two, Taken}

-- What is read first gives something, and this is what follows.
pub record Then {A : Type 0} (P : List Token → A → List Token → Type 0) (value : A → Value) (free : ℕ) (more : List Due) (from : List Token) (vs ws : List Value) (rest : List Token) : Type 0 where
  pub a : A
  pub mid : List Token
  pub is : P from a mid
  pub second : IsAll free more (value a ∷ vs) mid ws rest

pub given : {A : Type 0} {P : List Token → A → List Token → Type 0} {value : A → Value} {free : ℕ} {more : List Due} {from mid : List Token} {vs us ws : List Value} {rest : List Token} →
    Gives P value from vs us mid → IsAll free more us mid ws rest → Then P value free more from vs ws rest
given (gives a mid p) y = record { a = a; mid = mid; is = p; second = y }

-- the same of something else
pub regive : {A B : Type 0} {P : List Token → A → List Token → Type 0} {value : A → Value} {from : List Token} {vs ws : List Value} {rest : List Token} →
    (Q : List Token → B → List Token → Type 0) (other : B → Value) (before : List Token) → Gives P value from vs ws rest → (f : A → B) →
    ((a : A) (rest : List Token) → P from a rest → Q before (f a) rest) → ((a : A) → value a ≡ other (f a)) → Gives Q other before vs ws rest
regive {vs = vs} Q other before (gives a rest p) f g e = subst (λ v. Gives Q other before vs (v ∷ vs) rest) (sym (e a)) (gives (f a) rest (g a rest p))

-- it is given, where these are the values
pub put_given : {A : Type 0} {P : List Token → A → List Token → Type 0} {value : A → Value} {from : List Token} {vs ws : List Value} {rest : List Token} →
    (a : A) → ws ≡ value a ∷ vs → P from a rest → Gives P value from vs ws rest
put_given {P = P} {value = value} {from = from} {vs = vs} {rest = rest} a e p = subst (λ v. Gives P value from vs v rest) (sym e) (gives a rest p)

pub record Split (free : ℕ) (x : Turn) (more : List Due) (t : Token) (ts : List Token) (vs ws : List Value) (rest : List Token) : Type 0 where
  pub us : List Value
  pub mid : List Token
  pub first : Taken free x t ts vs us mid
  pub second : IsAll free more us mid ws rest

pub split : (free : ℕ) (x : Turn) (due : List Due) (t : Token) (ts : List Token) (vs ws : List Value) (rest : List Token) → Taken free (followed x due) t ts vs ws rest →
    Split free x due t ts vs ws rest
split free (takes plain ds) due t ts vs ws rest a = let r = in_two free ds due vs ts ws rest a in record { us = r.us; mid = r.mid; first = r.first; second = r.second }
split free (takes (nests d) ds) due t ts vs ws rest a =
    let r = in_two free ds due vs ts ws rest a.1 in record { us = r.us; mid = r.mid; first = (a.0, r.first); second = r.second }
split free (takes (label d spot) ds) due t ts vs ws rest a =
    let r = in_two free ds due vs ts ws rest a.1 in record { us = r.us; mid = r.mid; first = (a.0, r.first); second = r.second }
split free (takes (begun l) ds) due t ts vs ws rest a = absurd a
split free (makes m) due t ts vs ws rest a = absurd a
split free skips due t ts vs ws rest a = absurd a
split free closes due t ts vs ws rest a = absurd a
split free refuses due t ts vs ws rest a = absurd a

-- what may be left out, by the test that decides it
pub leave_skip : (b : Bool) (ds : List Due) (vs ws : List Value) (from rest : List Token) (R : List Value → List Token → Type 0) → R vs from →
    Leaves (either b (takes plain ds) skips) vs from ws rest → R ws rest
leave_skip true ds vs ws from rest R r l = absurd l
leave_skip false ds vs _ from _ R r left_out = r

pub leave_put : (b : Bool) (ds : List Due) (v : Value) (vs ws : List Value) (from rest : List Token) (R : List Value → List Token → Type 0) → R (v ∷ vs) from →
    Leaves (either b (takes plain ds) (makes (value_put v))) vs from ws rest → R ws rest
leave_put true ds v vs ws from rest R r l = absurd l
leave_put false ds v vs _ from _ R r makes_it = r
