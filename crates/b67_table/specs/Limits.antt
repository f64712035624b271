-- How large the parts of a run may be, where no crate below says it.
use Rattle.std.specs.Prelude.{ℕ, ◌+◌}
use Rattle.b67_limits.specs.declared.TheConstants.{MOST_FRAME_CELLS, MOST_PROCESSES, MOST_BLOCK_CELLS, MOST_PROCEDURES, MOST_EVENTS}
use Rattle.b67_segment.specs.declared.TheConstants.{MOST_SEGMENT_SYLLABLES, MOST_SEGMENT_WORDS}

-- the most words of a segment
abbrev pub segment_limit : ℕ
segment_limit = MOST_SEGMENT_WORDS

-- the place after the last syllable of such a segment: a branch may lead there, and no control word can hold it
abbrev pub end_of_code : ℕ
end_of_code = MOST_SEGMENT_SYLLABLES

-- how many segments a control word can name: the program's and one for each procedure
abbrev pub segment_numbers : ℕ
segment_numbers = MOST_PROCEDURES + 1

-- the most cells of a frame
abbrev pub most_cells : ℕ
most_cells = MOST_FRAME_CELLS

-- the most processes of a run
abbrev pub most_processes : ℕ
most_processes = MOST_PROCESSES

-- the most events for which a process waits at once
abbrev pub most_events : ℕ
most_events = MOST_EVENTS

-- the most arrays that are made at once
abbrev pub most_arrays : ℕ
most_arrays = MOST_BLOCK_CELLS
