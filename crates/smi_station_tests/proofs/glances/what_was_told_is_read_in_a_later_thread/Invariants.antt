use Rattle.smi_station_tests.proofs.glances.what_was_told_is_read_in_a_later_thread.Given as goal

-- the book of the history that was just begun
abbrev pub ghosts-over_board : goal.ghosts-over_board
ghosts-over_board g a = record { book = a.blank.seen.book }
