-- What a reference reaches: the word of the cell that it names, or through a reference that lies there the word of another cell.
use Rattle.std.proofs.Common.{◌≡◌, ap, ◌∙◌, Option, Some, None, Ok}
use Rattle.b67_rows.proofs.Prelude.{Word, as_sirw, Sirw, Stacks, word_at, ◌>->◌, look_seen, cell_place, sirw_cell, reached, reached_in, one_sirw, no_second, Cell, Reached}

-- from a cell this word in that cell is reached
abbrev pub Reaches : Stacks → Cell → Word → Cell → Type 0
Reaches stacks from w to = look_seen stacks (reached (Some from)) ≡ Ok (record { word = w; cell = to })

pub reached_there : (stacks : Stacks) (c : Cell) (w : Word) → word_at stacks (cell_place c) ≡ Some w → as_sirw w ≡ None → Reaches stacks c w c
reached_there stacks c w lies other =
    ap (λ (o : Option Word). look_seen stacks (reached_in c o >-> (λ (v : Reached). one_sirw (as_sirw v.word) v))) lies
    ∙ ap (λ (o : Option Sirw). look_seen stacks (one_sirw o (record { word = w; cell = c }))) other

pub reached_through : (stacks : Stacks) (c : Cell) (first : Word) (s : Sirw) (w : Word) → word_at stacks (cell_place c) ≡ Some first → as_sirw first ≡ Some s →
    word_at stacks (cell_place (sirw_cell s)) ≡ Some w → as_sirw w ≡ None → Reaches stacks c w (sirw_cell s)
reached_through stacks c first s w first_lies refers lies other =
    ap (λ (o : Option Word). look_seen stacks (reached_in c o >-> (λ (v : Reached). one_sirw (as_sirw v.word) v))) first_lies
    ∙ ap (λ (o : Option Sirw). look_seen stacks (one_sirw o (record { word = first; cell = c }))) refers
    ∙ ap (λ (o : Option Word). look_seen stacks (reached_in (sirw_cell s) o >-> (λ (v : Reached). no_second (as_sirw v.word) v))) lies
    ∙ ap (λ (o : Option Sirw). look_seen stacks (no_second o (record { word = w; cell = sirw_cell s }))) other
