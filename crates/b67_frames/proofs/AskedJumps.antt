-- What a head that asks for GO TO tells: the label is seen from the text of its part, and no arrays are still to be made there.
use Rattle.std.proofs.Common.{◌≡◌, ap, subst, []}
use Rattle.b67_frames.proofs.Prelude.{Named, Ask, goes_to, ask, ask_hole, ask_actuals, ask_aim, Hole, argument, Actuals, Aim, Rest, evaluating, locating, all_to_make}
use Rattle.algol_tree.specs.Plain.{PBody}
use Rattle.algol_meaning.specs.Rest.{going, aiming, storing, choosing, looping, checking, counting, differing, stepping, selecting, calling, preparing, writing, bounding}
use Rattle.algol_paths.specs.Texts.{InRest}
use Rattle.b67_frames.proofs.Expressions.{IsExpressionAsk, expression_asks}

-- no head in an expression goes to a label
none_goes : {A : Type 0} (n : Named) (k : Ask) → k ≡ goes_to n → IsExpressionAsk k → A
none_goes n k e is = absurd (subst IsExpressionAsk e is)

hole_goes : {A : Type 0} (n : Named) (h : Hole) → ask_hole h ≡ goes_to n → A
hole_goes n h e = none_goes n (ask_hole h) e (expression_asks (evaluating h) tt)

actuals_go : {A : Type 0} (n : Named) (x : Actuals) → ask_actuals x ≡ goes_to n → A
actuals_go n x e = hole_goes n (argument n x) e

aim_goes : {A : Type 0} (n : Named) (x : Aim) → ask_aim x ≡ goes_to n → A
aim_goes n x e = none_goes n (ask_aim x) e (expression_asks (locating x) tt)

-- so the statement itself is next
pub only_going : (n : Named) (r : Rest) → ask r ≡ goes_to n → r ≡ going n
only_going n (going m) e = let same : m ≡ n = cc in ap going same
only_going n (evaluating h) e = hole_goes n h e
only_going n (locating x) e = aim_goes n x e
only_going n (aiming x e' k) e = aim_goes n x e
only_going n (storing p h k) e = hole_goes n h e
only_going n (choosing h x y k) e = hole_goes n h e
only_going n (looping h c b k) e = hole_goes n h e
only_going n (checking h b c k) e = hole_goes n h e
only_going n (counting h b k) e = hole_goes n h e
only_going n (differing h loop k) e = hole_goes n h e
only_going n (stepping d h loop k) e = hole_goes n h e
only_going n (selecting h ss k) e = hole_goes n h e
only_going n (calling m x k) e = actuals_go n x e
only_going n (preparing m x task k) e = actuals_go n x e
only_going n (writing phrases vs h es k) e = hole_goes n h e
only_going n (bounding kind ns pairs vs h ps k) e = hole_goes n h e
only_going n r e = cc

pub goes_seen : (P : Named → Type 0) (Q : PBody → Type 0) (R : Named → Type 0) (n : Named) (r : Rest) → ask r ≡ goes_to n → InRest P Q R r → P n
goes_seen P Q R n r e is = subst (InRest P Q R) (only_going n r e) is

pub goes_unmade : (n : Named) (r : Rest) → ask r ≡ goes_to n → all_to_make r ≡ []
goes_unmade n r e = ap all_to_make (only_going n r e)
