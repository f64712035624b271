-- The frames that GO TO leaves are closed one after another: the rows that their cells describe, and their events.
use Rattle.std.proofs.Common.{◌≡◌, refl, sym, ap, ◌∙◌, ℕ, ◌+◌, List, [], ◌∷◌, ◌++◌, length, take, drop, append_assoc, length-append}
use Rattle.b67_list.proofs.Lists.{take_front}
use Rattle.b67_frames.proofs.Prelude.{Scopes, leave, World, Word, Rows, Event, closed_from, Passed, frames_left, Image, with_rows, with_events, frame_left, Change, changed, close_events, Layout, ArraysAre}
use Rattle.b67_rows.proofs.StackWords.{drop_seam}
use Rattle.b67_frames.proofs.Closing.{IsClosed}

-- the events after these frames of a stack are left, the newest first
abbrev pub events_left : ℕ → List Passed → List Event → List Event
events_left stack [] events = events
events_left stack (f ∷ fs) events = events_left stack fs (closed_from stack f.frame events)

-- an image with these rows, in which the events of these frames are closed
abbrev pub image_left : Image → Rows → ℕ → List Passed → Image
image_left img rows stack passed = with_events (with_rows img rows) (events_left stack passed img.events)

-- with these rows, in which the events of one frame are closed
abbrev pub after_one : ℕ → ℕ → Image → Rows → Image
after_one stack at img rows = with_events (with_rows img rows) (closed_from stack at img.events)

-- the cells of a frame in a stack
pub cells_there : (stack lower : List Word) (mark control : Word) (cells back : List Word) → stack ≡ (lower ++ mark ∷ control ∷ cells) ++ back → take (length cells) (drop (length lower + 2) stack) ≡ cells
cells_there stack lower mark control cells back whole =
    ap (λ (ws : List Word). take (length cells) (drop (length lower + 2) ws))
    (whole ∙ append_assoc lower (mark ∷ control ∷ cells) back ∙ sym (append_assoc lower (mark ∷ control ∷ []) (cells ++ back)))
    ∙ ap (take (length cells)) (drop_seam (lower ++ mark ∷ control ∷ []) (cells ++ back) (length lower + 2) (sym (length-append lower (mark ∷ control ∷ []))))
    ∙ take_front cells back (length cells) refl

module _ (sc : Scopes) (lay : Layout) (p : ℕ) (stack : List Word) where
  -- What is left of an image of a world once these frames of that stack are closed, which are those of these instances and of evaluations: its
  -- rows hold the arrays of the instances that stand then.
  pub record AreClosed (w : World) (img : Image) (is : List ℕ) (passed : List Passed) : Type 0 where
    pub rows : Rows
    pub changes : (m : ℕ) (next : Change) → changed m (frames_left p stack passed next) img ≡ changed m next (image_left img rows p passed)
    pub are : ArraysAre sc (leave w is) lay rows

  -- no frame
  pub none_closed : (w : World) (img : Image) → ArraysAre sc w lay img.rows → AreClosed w img [] []
  none_closed w img are = record { rows = img.rows; changes = λ m next. refl; are = are }

  module _ (w : World) (img : Image) (at : ℕ) (cells : List Word) (lie : take (length cells) (drop (at + 2) stack) ≡ cells) (fs : List Passed) where
    abbrev first : Passed
    first = record { frame = at; cells = length cells }

    abbrev further : Change → Change
    further next = frames_left p stack fs next

    closed_by : (rows : Rows) → ((m : ℕ) (next : Change) → changed m (frame_left p at cells next) img ≡ changed m next (after_one p at img rows)) → (m : ℕ) (next : Change) →
        changed m (frames_left p stack (first ∷ fs) next) img ≡ changed m (further next) (after_one p at img rows)
    closed_by rows closes m next = ap (λ (ws : List Word). changed m (frame_left p at ws (further next)) img) lie ∙ closes m (further next)

    -- that of an instance, and then these
    pub own_closed : (i : ℕ) (shut : IsClosed sc w lay img i cells) (is : List ℕ) → AreClosed (leave w (i ∷ [])) (after_one p at img shut.rows) is fs → AreClosed w img (i ∷ is) (first ∷ fs)
    own_closed i shut is later =
        record {
          rows = later.rows;
          changes = λ m next. closed_by shut.rows (λ n more. shut.changes n (close_events p at more)) m next ∙ later.changes m next;
          are = later.are;
        }

    -- that of an evaluation, which has no cells
    pub lent_closed : cells ≡ [] → (is : List ℕ) → AreClosed w (after_one p at img img.rows) is fs → AreClosed w img is (first ∷ fs)
    lent_closed none is later =
        record {
          rows = later.rows;
          changes = λ m next.
              closed_by img.rows (λ n more. ap (λ (ws : List Word). changed n (frame_left p at ws more) img) none) m next ∙ later.changes m next;
          are = later.are;
        }
