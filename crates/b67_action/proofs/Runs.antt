-- A run of a process on its own stack, one operator after another.
use Rattle.std.proofs.Common.{◌≡◌, sym, ap, subst, ◌∙◌, ℕ, ◌+◌, ◌-◌, ◌<◌, ◌≤◌, false, List, [], ◌∷◌, ◌++◌, length, take, drop, set, append_assoc, length-append, arith, refl}
use Rattle.std.proofs.Math.Seq.{take-append-add}
use Rattle.std.proofs.lemmas.List.{append-nil, length-drop, length-set, length-take-le, take-append-le, take_more_set}
use Rattle.b67_word.specs.Word.{Word}
use Rattle.b67_control.specs.declared.Registers.{Registers}
use Rattle.b67_deeds.specs.declared.Letter.{Letter}
use Rattle.b67_segment.specs.declared.code.Code.{Code}
use Rattle.b67_table.specs.Image.{Image}
use Rattle.b67_table.specs.Runs.{Plains}
use Rattle.b67_table.specs.Runs as runs
use Rattle.b67_table.specs.Table.{plain}
use Rattle.b67_table.specs.Valid.{IsValid}
use Rattle.b67_action.specs.declared.running.Ran.{Ran}
use Rattle.b67_action.specs.Running.{StaysCalm, HasPlace, IsStretchOf, ActionGoesOn, EntriesWalk, stay, go, IsOpenAt, HasCome, HasRunIn, HasRun}

pub plains_then : (code : Code) (p : ℕ) (a b c : Image) (k n : ℕ) → Plains code p a k b → Plains code p b n c → Plains code p a (k + n) c
plains_then code p a b c k n runs.stay more = subst (λ (x : ℕ). Plains code p b x c) none more
  where
    none : n ≡ 0 + n
    none = omega arith
plains_then code p a b c k n (runs.go {b = d} {n = j} e t rest) more =
    let sum : j + n + 1 ≡ j + 1 + n = omega arith in
    subst (λ (x : ℕ). Plains code p a x c) sum (runs.go e t (plains_then code p d b c j n rest more))

calm_then : (a b c : Image) → StaysCalm a b → StaysCalm b c → StaysCalm a c
calm_then a b c h k = record { states = k.states ∙ h.states; started = k.started ∙ h.started; fault = k.fault ∙ h.fault }

module _ (code : Code) (p : ℕ) (img : Image) where
  -- entries with these letters and so many operators in all, and so many plain operators of the next one
  pub record Going (noted : List Letter) (operators plain : ℕ) (new : Image) : Type 0 where
    pub between : Image
    pub walks : EntriesWalk code p img noted operators between
    pub plains : Plains code p between plain new
    pub valid : IsValid code new
    pub calm : StaysCalm img new

  pub going_on : (ran : Ran) (noted : List Letter) (x : Image) → HasCome code p img ran noted x → Going (take ran.entries noted) ran.operators ran.plain x
  going_on ran noted x h = record { between = h.between; walks = h.walks; plains = h.plains; valid = h.valid; calm = h.calm }

  module _ (noted : List Letter) (operators plains : ℕ) (x y : Image) (h : Going noted operators plains x) where
    -- plain operators more
    pub going_plain : (n most : ℕ) → IsStretchOf code p n most x y → IsValid code y → Going noted operators (plains + n) y
    going_plain n most s v = record {
      between = h.between;
      walks = h.walks;
      plains = plains_then code p h.between x y plains n h.plains s.plains;
      valid = v;
      calm = calm_then img x y h.calm s.calm;
    }

    -- an action that goes on
    pub going_action : (l : Letter) → ActionGoesOn code p l x y → Going (noted ++ l ∷ []) (operators + (plains + 1)) 0 y
    going_action l g = record { between = y; walks = go h.walks h.plains g; plains = runs.stay; valid = g.gone.valid; calm = calm_then img x y h.calm g.calm }

  -- an action that goes on, before which nothing was done
  pub going_next : (noted : List Letter) (operators done : ℕ) (x y z : Image) → operators ≤ done → Going noted operators (done - operators) x
      → IsStretchOf code p 0 0 x y → IsValid code y → (l : Letter) → ActionGoesOn code p l y z → Going (noted ++ l ∷ []) (done + 1) 0 z
  going_next noted operators done x y z few h s v l g =
      let all : operators + (done - operators + 0 + 1) ≡ done + 1 = omega (arith, few) in
      subst (λ (k : ℕ). Going (noted ++ l ∷ []) k 0 z) all
      (going_action noted operators (done - operators + 0) y z (going_plain noted operators (done - operators) x y h 0 0 s v) l g)

  pub come_none : (noted : List Letter) → IsValid code img → HasCome code p img (record { entries = 0; operators = 0; plain = 0 }) noted img
  come_none noted v = record {
    between = img;
    few = omega arith;
    walks = stay;
    plains = runs.stay;
    last = λ some all. refl;
    valid = v;
    calm = record { states = refl; started = refl; fault = refl };
  }

  pub has_come : (ran : Ran) (noted : List Letter) (new : Image) → ran.entries ≤ length noted → Going (take ran.entries noted) ran.operators ran.plain new
      → (1 ≤ ran.entries → ran.entries ≡ length noted → ran.plain ≡ 0) → HasCome code p img ran noted new
  has_come ran noted new few h last = record { between = h.between; few = few; walks = h.walks; plains = h.plains; last = last; valid = h.valid; calm = h.calm }

  -- what was run on a room that has a place for one more word
  pub has_run : (most : ℕ) (ran : Ran) (noted : List Letter) (new : Image) → HasCome code p img ran noted new
      → (ran.operators + ran.plain < most → IsOpenAt ran.entries noted → plain code new p ≡ false) → HasRun code p most img ran noted new
  has_run most ran noted new h stops =
      record { between = h.between; few = h.few; walks = h.walks; plains = h.plains; last = h.last; stops = stops; valid = h.valid; calm = h.calm }

  module _ (q : Registers) (ws : List Word) (most : ℕ) (ran : Ran) (noted : List Letter) where
    -- where the last letter is noted
    pub has_filled : (new : Image) → 1 ≤ ran.entries → ran.entries ≡ length noted → ran.plain ≡ 0
        → Going (take ran.entries noted) ran.operators ran.plain new → HasRunIn q ws code p most img ran noted new
    has_filled new some all none h = record {
      come = has_come ran noted new (omega (arith, all)) h (λ s a. none);
      stops = λ place less is_open. absurd (omega (arith, is_open some, all));
    }

    -- and then nothing more, since the next operator is not plain, or the room has no place for it
    pub has_ended : (x y : Image) → ran.entries ≤ length noted → IsOpenAt ran.entries noted → Going (take ran.entries noted) ran.operators ran.plain x
        → (n : ℕ) → IsStretchOf code p 0 n x y → (HasPlace q ws → plain code y p ≡ false) → IsValid code y → HasRunIn q ws code p most img ran noted y
    has_ended x y few is_open h n s waits v =
        let none : ran.plain + 0 ≡ ran.plain = omega arith in
        record {
          come = has_come ran noted y few
              (subst (λ (n : ℕ). Going (take ran.entries noted) ran.operators n y) none (going_plain (take ran.entries noted) ran.operators ran.plain x y h 0 n s v))
              (λ some all. absurd (omega (arith, is_open some, all)));
          stops = λ place less o. waits place;
        }

-- ---- one run, an action, and another run

walks_then : (code : Code) (p : ℕ) (a b c : Image) (ls ks : List Letter) (m l : ℕ) → EntriesWalk code p a ls m b → EntriesWalk code p b ks l c → EntriesWalk code p a (ls ++ ks) (m + l) c
walks_then code p a b c ls ks m l h stay =
    let f : m ≡ m + 0 = omega arith in
    subst (λ (xs : List Letter). EntriesWalk code p a xs (m + 0) c) (sym (append-nil ls)) (subst (λ (x : ℕ). EntriesWalk code p a ls x c) f h)
walks_then code p a b c ls ks m l h (go {b = d} {c = e} {ls = is} {l = named} {m = j} {k = o} w plains g) =
    let t : m + j + (o + 1) ≡ m + (j + (o + 1)) = omega arith in
    subst (λ (xs : List Letter). EntriesWalk code p a xs (m + (j + (o + 1))) c) (append_assoc ls is (named ∷ []))
    (subst (λ (x : ℕ). EntriesWalk code p a ((ls ++ is) ++ named ∷ []) x c) t (go (walks_then code p a b d ls is m j h w) plains g))

-- the rest of a list that was lent is as long as it was
pub rest_size : (all part : List Letter) (n : ℕ) → n ≤ length all → length part ≡ length (take (length all - n) (drop n all)) → n + length part ≡ length all
rest_size all part n within size = omega (arith, within, size, length-take-le (length all - n) (drop n all) (omega (arith, length-drop n all)), length-drop n all)

-- and with what is noted in it the list is
pub whole_again : (all part post : List Letter) (n : ℕ) → n ≤ length all → n + length part ≡ length all → length post ≡ 0 → length (take n all ++ (part ++ post)) ≡ length all
whole_again all part post n within size empty =
    omega (arith, within, size, empty, length-append (take n all) (part ++ post), length-append part post, length-take-le n all within)

-- letters that are noted after others in the rest of a list
pub noted_then : (letters second post : List Letter) (n m : ℕ) (l : Letter) → n < length letters → m ≤ length second
    → take (n + 1 + m) (take (n + 1) (set letters n l) ++ (second ++ post)) ≡ (take n letters ++ l ∷ []) ++ take m second
noted_then letters second post n m l lt fits =
    let front : List Letter = take (n + 1) (set letters n l) in
    let long : length front ≡ n + 1 = length-take-le (n + 1) (set letters n l) (omega (arith, lt, length-set letters n l)) in
    subst (λ (k : ℕ). take (k + m) (front ++ (second ++ post)) ≡ front ++ take m second) long
    (take-append-add front (second ++ post) m ∙ ap (λ (ys : List Letter). front ++ ys) (take-append-le m second post fits))
    ∙ ap (λ (xs : List Letter). xs ++ take m second) (take_more_set letters n l lt)

module _ (code : Code) (p : ℕ) (img : Image) where
  -- where the letter of the action is the last that can be noted
  pub run_last : (most : ℕ) (a : Ran) (first all : List Letter) (l : Letter) (x y : Image) → HasRun code p most img a first x → ActionGoesOn code p l x y → a.entries + 1 ≡ length all
      → take (a.entries + 1) all ≡ take a.entries first ++ l ∷ []
      → HasRun code p most img (record { entries = a.entries + 1; operators = a.operators + (a.plain + 1); plain = 0 }) all y
  run_last most a first all l x y h g full noted = record {
    between = y;
    few = omega (arith, full);
    walks = subst (λ (ls : List Letter). EntriesWalk code p img ls (a.operators + (a.plain + 1)) y) (sym noted) (go h.walks h.plains g);
    plains = runs.stay;
    last = λ some all. refl;
    stops = λ less is_open. absurd (omega (arith, is_open (omega arith), full));
    valid = g.gone.valid;
    calm = calm_then img x y h.calm g.calm;
  }

  -- whose letters are noted one after another
  pub run_then : (most : ℕ) (a b : Ran) (first second all : List Letter) (l : Letter) (x y z : Image) → HasRun code p most img a first x → ActionGoesOn code p l x y
      → HasRun code p (most - (a.operators + (a.plain + 1))) y b second z → a.entries + 1 + b.entries ≤ length all
      → 1 ≤ length second → a.entries + 1 + length second ≡ length all
      → take (a.entries + 1 + b.entries) all ≡ (take a.entries first ++ l ∷ []) ++ take b.entries second
      → HasRun code p most img (record { entries = a.entries + 1 + b.entries; operators = a.operators + (a.plain + 1) + b.operators; plain = b.plain }) all z
  run_then most a b first second all l x y z h g k few some size noted = record {
    between = k.between;
    few = few;
    walks = subst (λ (ls : List Letter). EntriesWalk code p img ls (a.operators + (a.plain + 1) + b.operators) k.between) (sym noted)
        (walks_then code p img y k.between (take a.entries first ++ l ∷ []) (take b.entries second) (a.operators + (a.plain + 1)) b.operators (go h.walks h.plains g) k.walks);
    plains = k.plains;
    last = λ one full. k.last (omega (arith, full, size, some)) (omega (arith, full, size));
    stops = λ less is_open. k.stops (omega (arith, less)) (λ one. omega (arith, is_open (omega arith), size));
    valid = k.valid;
    calm = calm_then img x z h.calm (calm_then x y z g.calm k.calm);
  }
