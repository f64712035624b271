-- The rules of counts and of lines. Each is the list of places at which a tree breaks it. A name of which nothing is known breaks
-- none of them.
use Rattle.std.specs.Prelude.{ℕ, ◌+◌, ◌==◌, ◌&&◌, ◌||◌, nat_lt, not, Bool, false, List, [], length}
use Rattle.std.specs.List.{list_any}
use Rattle.b67_limits.specs.declared.TheConstants.{MOST_EVENTS}
use Rattle.algol_tree.specs.declared.TheConstants.{MOST_LINE_WIDTH}
use Rattle.algol_tree.specs.declared.token.Spot.{Spot}
use Rattle.algol_tree.specs.declared.tree.Named.{Named}
use Rattle.algol_tree.specs.declared.tree.PhraseText.{PhraseText}
use Rattle.algol_tree.specs.Plain as tree
use Rattle.algol_tree.specs.Plain.{PExpr, PExprs, PStmt}
use Rattle.algol_tree.specs.Classes as class
use Rattle.algol_tree.specs.Classes.{Class}
use Rattle.algol_tree.specs.Surroundings.{Surroundings, class_of}
use Rattle.algol_tree.specs.Sites as site
use Rattle.algol_tree.specs.Sites.{Part, Site}
use Rattle.algol_tree.specs.Names.{if_so}
use Rattle.algol_tree.specs.Checks.{is_function}
use Rattle.algol_tree.specs.Phrases.{phrase_of, is_no_phrase, items_of, columns_of}

abbrev pub exprs_count : PExprs → ℕ
exprs_count tree.none = 0
exprs_count (tree.more e es) = 1 + exprs_count es

-- ---- wrong counts, of the actuals of a call or the subscripts of an array, at the name; and no events or too many, at the word before them

abbrev takes_others : Class → ℕ → Bool
takes_others (class.procedure h) count = not (length h.params == count)
takes_others _ count = false

abbrev has_others : Class → ℕ → Bool
has_others (class.array kind subscripts) count = not (subscripts == count)
has_others _ count = false

-- a name without subscripts that is read is also a call without actuals
abbrev miscounted_variable : Named → PExprs → Surroundings → List Spot
miscounted_variable n tree.none a = if_so (is_function (class_of a n) && takes_others (class_of a n) 0) n.spot
miscounted_variable n (tree.more e es) a = if_so (has_others (class_of a n) (exprs_count (tree.more e es))) n.spot

abbrev miscounted_call : Named → PExprs → Surroundings → List Spot
miscounted_call n es a = if_so (takes_others (class_of a n) (exprs_count es)) n.spot

abbrev pub miscounted_in_expr : PExpr → Surroundings → List Spot
miscounted_in_expr (tree.variable (tree.subscripted n es)) a = miscounted_variable n es a
miscounted_in_expr (tree.call (tree.called n es)) a = miscounted_call n es a
miscounted_in_expr (tree.number z spot) a = []
miscounted_in_expr (tree.truth b spot) a = []
miscounted_in_expr (tree.tested test es spot) a = if_so ((length es == 0) || nat_lt MOST_EVENTS (length es)) spot
miscounted_in_expr (tree.paren e spot) a = []
miscounted_in_expr (tree.plus e spot) a = []
miscounted_in_expr (tree.neg e spot) a = []
miscounted_in_expr (tree.not e spot) a = []
miscounted_in_expr (tree.two op x y) a = []
miscounted_in_expr (tree.if c x y spot) a = []

abbrev pub miscounted_in_stmt : PStmt → Surroundings → List Spot
miscounted_in_stmt (tree.assign (tree.subscripted n (tree.more e es)) v) a = miscounted_variable n (tree.more e es) a
miscounted_in_stmt (tree.assign (tree.subscripted n tree.none) v) a = []
miscounted_in_stmt (tree.call_of (tree.called n es)) a = miscounted_call n es a
miscounted_in_stmt (tree.process (tree.called n es) task) a = miscounted_call n es a
miscounted_in_stmt tree.empty a = []
miscounted_in_stmt (tree.label n s) a = []
miscounted_in_stmt (tree.go_to n) a = []
miscounted_in_stmt (tree.block b) a = []
miscounted_in_stmt (tree.if_then c x) a = []
miscounted_in_stmt (tree.if_else c x y) a = []
miscounted_in_stmt (tree.while c b) a = []
miscounted_in_stmt (tree.until b c) a = []
miscounted_in_stmt (tree.for v x s l b) a = []
miscounted_in_stmt (tree.thru e b) a = []
miscounted_in_stmt (tree.case e ss) a = []
miscounted_in_stmt (tree.event act e) a = []
miscounted_in_stmt (tree.write n spot phrases es) a = []

abbrev pub miscounted_part : Part → Surroundings → List Spot
miscounted_part (site.expression e) a = miscounted_in_expr e a
miscounted_part (site.statement s listed) a = miscounted_in_stmt s a
miscounted_part _ a = []

abbrev pub wrong_counts : Site → List Spot
wrong_counts x = miscounted_part x.part x.around

-- ---- lines: as many items as phrases that print one, and no wider than a line, at the format

abbrev is_bad_list : List PhraseText → PExprs → Bool
is_bad_list ps es = list_any (λ (p : PhraseText). is_no_phrase (phrase_of p)) ps || not (items_of ps == exprs_count es)

abbrev pub bad_list_part : Part → List Spot
bad_list_part (site.statement (tree.write n spot ps es) listed) = if_so (is_bad_list ps es) spot
bad_list_part _ = []

abbrev pub bad_lists : Site → List Spot
bad_lists x = bad_list_part x.part

abbrev pub wide_part : Part → List Spot
wide_part (site.statement (tree.write n spot ps es) listed) = if_so (nat_lt MOST_LINE_WIDTH (columns_of ps)) spot
wide_part _ = []

abbrev pub wide_lines : Site → List Spot
wide_lines x = wide_part x.part
