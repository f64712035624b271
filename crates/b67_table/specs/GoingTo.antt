-- GOTO: all frames above the one of a level are left.
use Rattle.std.specs.Prelude.{ℕ, zero, suc, ◌+◌, ◌-◌, ◌&&◌, nat_lt, nat_le, nat_eq, if◌then◌else◌, ℤ, pos, negsuc, List, [], ◌∷◌, take, drop, Option, Some, None}
use Rattle.b67_num.specs.declared.FaultKind.TheVariants.{BadGoTo}
use Rattle.b67_word.specs.declared.Place.{Place}
use Rattle.b67_word.specs.Word.{Word}
use Rattle.b67_control.specs.declared.Registers.{Registers}
use Rattle.b67_table.specs.declared.Below.{Below}
use Rattle.b67_table.specs.Limits.{segment_numbers, end_of_code}
use Rattle.b67_table.specs.Private.{display_at, frame}
use Rattle.b67_table.specs.Look.{Look, found, ◌>->◌, valid}
use Rattle.b67_table.specs.Chains.{place, chain_broken, rebuilt, left_to}
use Rattle.b67_table.specs.Program.{answer, fault, loads, ◌>>=◌, see, Change, done, cut, registers, Program}
use Rattle.b67_table.specs.Linkage.{if_not_critical, frame_left}
use Rattle.b67_table.specs.Arguments.{IntrinsicRow, Three, three, argument_number_in}

-- a frame that GOTO leaves, and how many cells it has
pub record Passed : Type 0 where
  pub frame : ℕ
  pub cells : ℕ

-- the frames above the target, the newest first, and how many cells the target has
pub record Passing : Type 0 where
  pub frames : List Passed
  pub cells : ℕ

abbrev pub passing_after : Passed → Passing → Passing
passing_after here p = record { frames = here ∷ p.frames; cells = p.cells }

-- in at most so many steps down from a frame that has these cells
abbrev pub passing : ℕ → ℕ → ℕ → Passed → Look Passing
passing zero stack target here = chain_broken
passing (suc steps) stack target here =
    if nat_eq here.frame target then found (record { frames = []; cells = here.cells })
    else if nat_lt here.frame target then chain_broken
    else left_to (place stack here.frame) >-> (λ (b : Below).
    passing steps stack target (record { frame = b.frame; cells = b.control.caller_cells }) >-> (λ (p : Passing). found (passing_after here p)))

abbrev pub passed_by : Registers → Place → Look Passing
passed_by r target =
    if nat_eq target.stack r.stack then passing (frame r + 1) r.stack target.at (record { frame = frame r; cells = r.cells })
    else found (record { frames = []; cells = 0 })

-- what GOTO goes to
pub record Target : Type 0 where
  pub frame : Place
  pub level : ℕ
  pub segment : ℕ
  pub pointer : ℕ

-- a level from 2 to LL whose frame the display names
abbrev pub level_in : Registers → ℤ → Option ℕ
level_in r (negsuc n) = None
level_in r (pos n) = if nat_le 2 n && nat_le n r.ll then Some n else None

abbrev pub target_of : Registers → Three → Look Target
target_of r t =
    valid (level_in r t.first) >-> (λ (level : ℕ). valid (display_at r level) >-> (λ (f : Place). valid (argument_number_in t.second (segment_numbers - 1)) >-> (λ (segment : ℕ).
    valid (argument_number_in t.third end_of_code) >-> (λ (pointer : ℕ). found (record { frame = f; level = level; segment = segment; pointer = pointer })))))

-- each frame is left with its cells
abbrev pub frames_left : ℕ → List Word → List Passed → Change → Change
frames_left stack words [] next = next
frames_left stack words (f ∷ fs) next = frame_left stack f.frame (take f.cells (drop (f.frame + 2) words)) (frames_left stack words fs next)

abbrev pub passed_frames : List Passed → List ℕ
passed_frames [] = []
passed_frames (f ∷ fs) = f.frame ∷ passed_frames fs

abbrev pub gone_to : Registers → Target → Passing → List (Option Place) → List Word → Change
gone_to r t p display words =
    let s = t.frame.at + 2 + p.cells in
    frames_left r.stack words p.frames (cut r.stack s (registers (record r {
      s = s;
      f = t.frame.at;
      ll = t.level;
      display = display;
      cells = p.cells;
      segment = t.segment;
      place = t.pointer;
    }) done))

abbrev pub if_same_stack : Registers → Place → Program → Program
if_same_stack r target next = if nat_eq target.stack r.stack then next else fault BadGoTo

abbrev pub go_to : IntrinsicRow
go_to code r next m words =
    see (three words) >>= (λ (z : Three). see (target_of r z) >>= (λ (t : Target). see (passed_by r t.frame) >>= (λ (p : Passing).
    see (rebuilt t.frame t.level) >>= (λ (display : List (Option Place)). if_same_stack r t.frame (if_not_critical r.stack (passed_frames p.frames)
    (loads (place r.stack 0) r.s (λ (stack : List Word). answer (gone_to r t p display stack))))))))
