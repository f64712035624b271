-- The frame of a part that goes on with an answer.
use Rattle.std.proofs.Common.{◌≡◌, sym, ◌∙◌, ℕ, List, length}
use Rattle.b67_frames.proofs.Prelude.{PProgram, resume, Answer, Part, World, instance_at, all_to_make, BlockIsSeen, Word, Code, Texts, Layout, Frame}
use Rattle.algol_tree.specs.Scopes.{scopes_of}
use Rattle.algol_paths.specs.Arrays.{all_left_to_make}
use Rattle.algol_paths.specs.Laws.{RestsKeepToTheirText, AllIsMadeInOrder}
use Rattle.algol_paths.specs.Texts.{InAnswer}
use Rattle.b67_frames.proofs.Expressions.{expression_resumed}
use Rattle.b67_frames.proofs.Lying.{shape_on}

module _ (tree : PProgram) (code : Code) (texts : Texts) (w : World) (lay : Layout) (p : ℕ) (keeps : RestsKeepToTheirText) (order : AllIsMadeInOrder) where
  -- the frame of a part that goes on with an answer: the same words, for what the part has then to do
  abbrev pub frame_resumed : (part : Part) (outer : List Part) (below words : List Word) (f : Frame tree code texts w lay p part outer below) → words ≡ below → all_left_to_make part.rest ≡ all_to_make part.rest →
      (a : Answer) → InAnswer (BlockIsSeen (scopes_of tree) ((instance_at w part.instance).block)) a → Frame tree code texts w lay p (record part { rest = resume (scopes_of tree) part.rest a }) outer words
  frame_resumed part outer below words f same unmade a nameless =
      record {
        lower = f.lower;
        mark = f.mark;
        control = f.control;
        cells = f.cells;
        words_are = same ∙ f.words_are;
        instance = f.instance;
        is = f.is;
        known = f.known;
        home = f.home;
        df = f.df;
        mark_is = f.mark_is;
        back = f.back;
        control_is = f.control_is;
        level_is = f.level_is;
        gives = f.gives;
        text = keeps.resumed (scopes_of tree) ((instance_at w part.instance).block) part.rest a f.text nameless;
        shape = shape_on tree code texts w lay p part outer (length f.lower) f.mark f.control f.cells f.home f.gives (resume (scopes_of tree) part.rest a)
            (sym unmade ∙ sym (order.resumed (scopes_of tree) ((instance_at w part.instance).block) part.rest a f.text)) (expression_resumed (scopes_of tree) part.rest a) f.shape;
      }
