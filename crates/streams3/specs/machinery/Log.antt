-- How the payloads of a stream are kept.
use Rattle.std.specs.Prelude.{ℕ, ◌+◌, List, ◌-◌, slice_index_or}
use Rattle.streams3.specs.declared.runs.Run.{Run}

abbrev pub no_run : Run
no_run = record { position = 0; at = 0; size = 0; frame = 0 }

-- the run at an index
abbrev pub nth_run : List Run → ℕ → Run
nth_run runs i = slice_index_or runs i no_run

abbrev pub end_at : List Run → ℕ → ℕ
end_at runs i = (nth_run runs i).position + (nth_run runs i).size

-- the bytes of a run from a position on, up to another
abbrev pub part_of : Run → (start stop : ℕ) → Run
part_of run start stop = record {
  position = start;
  at = run.at + (start - run.position);
  size = stop - start;
  frame = run.frame;
}
