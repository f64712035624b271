-- What is noted beside the code: of one piece of code after another.
use Rattle.std.proofs.Common.{◌≡◌, ℕ, ◌≤◌, List, [], ◌∷◌, ◌++◌, length, ap, ◌∙◌, sym, subst, arith, append_assoc}
use Rattle.std.specs.List.{AllByRecursion}
use Rattle.std.proofs.lemmas.List.{append-nil}
use Rattle.std.specs.Prelude.{None, Some}
use Rattle.b67_list.proofs.Lists.{each_both, each_front}
use Rattle.b67_emit_stmt.specs.declared.draft.Label.{Label}
use Rattle.b67_emit_stmt.specs.Drafts.{DraftAgrees, FormatsCanBeListed, NotedGrows, IsFront, DraftNoted}
use Rattle.b67_emit_stmt.specs.Places.{Later}

-- ---- lists

pub front_self : {X : Type 0} (xs : List X) → IsFront xs xs
front_self {X} xs = ([], sym (append-nil xs))

pub front_trans : {X : Type 0} (xs ys zs : List X) → IsFront xs ys → IsFront ys zs → IsFront xs zs
front_trans {X} xs ys zs h k = (h.0 ++ k.0, k.1 ∙ ap (λ (l : List X). l ++ k.0) h.1 ∙ append_assoc xs h.0 k.0)

-- ---- what is noted

-- these begin at that place or after it
abbrev pub AreBehind : ℕ → List Label → Type 0
AreBehind from ls = AllByRecursion (λ (l : Label). from ≤ l.place) ls

earlier : (m n : ℕ) (ls : List Label) → m ≤ n → AreBehind n ls → AreBehind m ls
earlier m n [] le h = tt
earlier m n (l ∷ ls) le h = (omega (arith, le, h.0), earlier m n ls le h.1)

pub grows_equal : {n : ℕ} {x y : DraftNoted} → y ≡ x → NotedGrows n x y
grows_equal {n} {x} {y} e = record {
  formats = ([], ap (λ (z : DraftNoted). z.formats) e ∙ sym (append-nil x.formats));
  labels = [];
  labels_are = ap (λ (z : DraftNoted). z.labels) e ∙ sym (append-nil x.labels);
  behind = tt;
}

pub grows_then : {m n : ℕ} {x y z : DraftNoted} → m ≤ n → NotedGrows m x y → NotedGrows n y z → NotedGrows m x z
grows_then {m} {n} {x} {y} {z} le g h = record {
  formats = front_trans x.formats y.formats z.formats g.formats h.formats;
  labels = g.labels ++ h.labels;
  labels_are = h.labels_are ∙ ap (λ (l : List Label). l ++ h.labels) g.labels_are ∙ append_assoc x.labels g.labels h.labels;
  behind = each_both (λ (l : Label). m ≤ l.place) g.labels h.labels g.behind (earlier m n h.labels le h.behind);
}

-- what agrees with all that was noted agrees with what was noted first
pub agrees_front : {n : ℕ} {x y : DraftNoted} {later : Later} → NotedGrows n x y → DraftAgrees y later → DraftAgrees x later
agrees_front {n} {x} {y} {later} g a =
    let P : Label → Type 0 = λ l. later.labels l.spot ≡ Some l.place in
    let A : List Label → Type 0 = λ l. AllByRecursion P l in
    record {
      formats = front_trans x.formats y.formats later.formats g.formats a.formats;
      labels = each_front P x.labels g.labels (subst A g.labels_are a.labels);
    }

pub agrees_same : {x y : DraftNoted} {later : Later} → y ≡ x → DraftAgrees y later → DraftAgrees x later
agrees_same {x} {y} {later} e a = let A : DraftNoted → Type 0 = λ n. DraftAgrees n later in subst A e a

pub listed_equal : {x y : DraftNoted} → y ≡ x → FormatsCanBeListed x.formats → FormatsCanBeListed y.formats
listed_equal {x} {y} e h = let A : DraftNoted → Type 0 = λ n. FormatsCanBeListed n.formats in subst A (sym e) h

-- as many formats
pub formats_same : {x y : DraftNoted} → y ≡ x → length y.formats ≡ length x.formats
formats_same {x} {y} e = ap (λ (n : DraftNoted). length n.formats) e

-- where nothing is known yet
abbrev pub unknown : Later
unknown = record { formats = []; labels = λ spot. None }
