-- A text of commands has one reading.
use Rattle.std.proofs.Common.{arith, ◌≡◌, ◌≢◌, ◌⊎◌, refl, sym, ap, ◌∙◌, subst, inl, inr, ℕ, suc, ◌+◌, ◌<◌, List, [], ◌∷◌, ◌++◌, length, get_or, None}
use Rattle.b67_commands.specs.declared.command.TheConstants.{MOST_COMMANDS}
use Rattle.b67_commands.specs.declared.command.Command.{Command}
use Rattle.b67_commands.specs.Commands.{IsCommand, IsFirstLine, Begin, none, next, AreCommands, IsBadLine, MayStandNext, TextsHaveOneReading}

-- ---- a text has one first line

abbrev HasNoEnd : List ℕ → Type 0
HasNoEnd line = (k : ℕ) → k < length line → get_or line k 0 ≢ 10

tail_has_none : (b : ℕ) (line : List ℕ) → HasNoEnd (b ∷ line) → HasNoEnd line
tail_has_none b line lacks = λ k l. lacks (suc k) (omega (arith, l))

record Same (line other rest left : List ℕ) : Type 0 where
  lines : line ≡ other
  rests : rest ≡ left

same_cut : (line other rest left : List ℕ) → HasNoEnd line → HasNoEnd other → line ++ 10 ∷ rest ≡ other ++ 10 ∷ left → Same line other rest left
same_cut [] [] rest left a b e = record { lines = refl; rests = cc }
same_cut [] (x ∷ other) rest left a b e = let ten : x ≡ 10 = cc in absurd (b 0 (omega arith) ten)
same_cut (x ∷ line) [] rest left a b e = let ten : x ≡ 10 = cc in absurd (a 0 (omega arith) ten)
same_cut (x ∷ line) (y ∷ other) rest left a b e =
    let same : x ≡ y = cc in
    let tails : line ++ 10 ∷ rest ≡ other ++ 10 ∷ left = cc in
    let all = same_cut line other rest left (tail_has_none x line a) (tail_has_none y other b) tails in
    record { lines = ap (λ (z : ℕ). z ∷ line) same ∙ ap (λ (l : List ℕ). y ∷ l) all.lines; rests = all.rests }

no_cut : (line other rest : List ℕ) → HasNoEnd other → line ++ 10 ∷ rest ≡ other → ⊥
no_cut [] [] rest b e = cc
no_cut [] (x ∷ other) rest b e = let ten : x ≡ 10 = cc in b 0 (omega arith) ten
no_cut (x ∷ line) [] rest b e = cc
no_cut (x ∷ line) (y ∷ other) rest b e = let tails : line ++ 10 ∷ rest ≡ other = cc in no_cut line other rest (tail_has_none y other b) tails

first_once : (text line other rest left : List ℕ) → IsFirstLine text line rest → IsFirstLine text other left → Same line other rest left
first_once text line other rest left a b = by a.ends b.ends
  where
    by : (text ≡ line ++ 10 ∷ rest) ⊎ ((text ≡ line) × (rest ≡ [])) → (text ≡ other ++ 10 ∷ left) ⊎ ((text ≡ other) × (left ≡ [])) → Same line other rest left
    by (inl e) (inl f) = same_cut line other rest left a.whole b.whole (sym e ∙ f)
    by (inl e) (inr f) = absurd (no_cut line other rest b.whole (sym e ∙ f.0))
    by (inr e) (inl f) = absurd (no_cut other line left a.whole (sym f ∙ e.0))
    by (inr e) (inr f) = record { lines = sym e.0 ∙ f.0; rests = e.1 ∙ sym f.1 }

-- ---- what a text begins with, case by case

data Form (text : List ℕ) (commands : List Command) (rest : List ℕ) : Type 0 where
  stops : commands ≡ [] → text ≡ rest → Form text commands rest
  goes : (line left : List ℕ) (command : Command) (more : List Command) → IsFirstLine text line left → IsCommand line command → Begin left more rest →
      commands ≡ command ∷ more → Form text commands rest

form_of : (text : List ℕ) (commands : List Command) (rest : List ℕ) → Begin text commands rest → Form text commands rest
form_of _ _ _ none = stops refl refl
form_of _ _ _ (next {line = l} {left = m} {command = c} {commands = cs} f i b) = goes l m c cs f i b refl

-- ---- two readings of a text, each up to a line

-- they stop at the same line; or one goes on where the other stops, and then the line there is a command
data Stops (before others : List Command) (line other : List ℕ) : Type 0 where
  together : length before ≡ length others → Stops before others line other
  earlier : length before < length others → (command : Command) → IsCommand line command → Stops before others line other
  later : length others < length before → (command : Command) → IsCommand other command → Stops before others line other

one_more : (c d : Command) (before others : List Command) (line other : List ℕ) → Stops before others line other → Stops (c ∷ before) (d ∷ others) line other
one_more c d before others line other (together e) = together (ap suc e)
one_more c d before others line other (earlier less command is) = earlier (omega (arith, less)) command is
one_more c d before others line other (later less command is) = later (omega (arith, less)) command is

stop : (text : List ℕ) (before others : List Command) (left more line other rest after : List ℕ) → Begin text before left → Form text others more → IsFirstLine left line rest →
    IsFirstLine more other after → Stops before others line other
stop text _ others _ more line other rest after none (stops e f) first second = together (ap length (sym e))
stop text _ others _ more line other rest after none (goes l m c cs f is b e) first second =
    let same = first_once text l line m rest f first in
    earlier (subst (λ (os : List Command). 0 < length os) (sym e) (omega arith)) c (subst (λ (w : List ℕ). IsCommand w c) same.lines is)
stop text _ others left more line other rest after (next {line = k} {left = m} {command = d} {commands = ds} f is b) (stops e g) first second =
    let same = first_once text k other m after f (subst (λ (t : List ℕ). IsFirstLine t other after) (sym g) second) in
    later (subst (λ (os : List Command). length os < length (d ∷ ds)) (sym e) (omega arith)) d (subst (λ (w : List ℕ). IsCommand w d) same.lines is)
stop text _ others left more line other rest after (next {line = k} {left = m} {command = d} {commands = ds} f is b) (goes l n c cs g also begin e) first second =
    let same = first_once text k l m n f g in
    subst (λ (os : List Command). Stops (d ∷ ds) os line other) (sym e)
    (one_more d c ds cs line other
    (stop m ds cs left more line other rest after b (form_of m cs more (subst (λ (t : List ℕ). Begin t cs more) (sym same.rests) begin)) first second))

-- a line that may not stand is no command where more may stand
no_more : {B : Type 0} (line : List ℕ) (before : ℕ) (command : Command) → MayStandNext line before None → before < MOST_COMMANDS → IsCommand line command → B
no_more line before command (inl e) less is = absurd (omega (arith, e, less))
no_more line before command (inr lacks) less is = absurd (lacks command is)

one_line : (text : List ℕ) (one other : ℕ) → IsBadLine text one → IsBadLine text other → one ≡ other
one_line text one other a b = by (stop text a.before b.before a.left b.left a.line b.line a.rest b.rest a.begin (form_of text b.before b.left b.begin) a.first b.first)
  where
    by : Stops a.before b.before a.line b.line → one ≡ other
    by (together e) = a.is ∙ ap (λ (n : ℕ). n + 1) e ∙ sym b.is
    by (earlier less command is) = no_more a.line (length a.before) command a.bad (omega (arith, less, b.few)) is
    by (later less command is) = no_more b.line (length b.before) command b.bad (omega (arith, less, a.few)) is

-- ---- a text whose lines are all commands

clash : (text : List ℕ) (commands before : List Command) (left line rest : List ℕ) → Begin text before left → Form text commands [] → IsFirstLine left line rest →
    (length before < length commands) × (command : Command) × IsCommand line command
clash text commands _ _ line rest none (stops e f) first = absurd (first.some f)
clash text commands _ _ line rest none (goes l m c cs f is b e) first =
    let same = first_once text l line m rest f first in
    (subst (λ (os : List Command). 0 < length os) (sym e) (omega arith), c, subst (λ (w : List ℕ). IsCommand w c) same.lines is)
clash text commands _ left line rest (next f is b) (stops e g) first = absurd (f.some g)
clash text commands _ left line rest (next {line = k} {left = m} {command = d} {commands = ds} f is b) (goes l n c cs g also begin e) first =
    let same = first_once text k l m n f g in
    let on = clash m cs ds left line rest b (form_of m cs [] (subst (λ (t : List ℕ). Begin t cs []) (sym same.rests) begin)) first in
    (subst (λ (os : List Command). length (d ∷ ds) < length os) (sym e) (omega (arith, on.0)), on.1, on.2)

no_bad_line : (text : List ℕ) (commands : List Command) (line : ℕ) → AreCommands text commands → IsBadLine text line → ⊥
no_bad_line text commands line are bad =
    let on = clash text commands bad.before bad.left bad.line bad.rest bad.begin (form_of text commands [] are.begin) bad.first in
    no_more bad.line (length bad.before) on.1 bad.bad (omega (arith, on.0, are.few)) on.2

pub one_reading : TextsHaveOneReading
one_reading = (no_bad_line, one_line)
