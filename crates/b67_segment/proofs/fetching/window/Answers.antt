use Rattle.std.proofs.Common.{sym}
use Rattle.b67_segment.proofs.Fetches.{one_word, two_words}
use Rattle.b67_segment.proofs.fetching.window.Goals as goal

pub returns-in-len1-clause-syllables : goal.returns-in-len1-clause-syllables
returns-in-len1-clause-syllables c =
    rw c.to_be_bytes.ensures (sym (one_word c.args.words.now c.in-len1.len_at_least c.in-len1.len_below))

pub returns-in-len2-up-clause-syllables : goal.returns-in-len2-up-clause-syllables
returns-in-len2-up-clause-syllables c =
    rw (c.to_be_bytes-in-len2-up.ensures, c.to_be_bytes-in-len2-up-2.ensures)
    (sym (two_words c.args.words.now c.in-len2-up.len_at_least))
