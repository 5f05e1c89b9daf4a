use Rattle.smi_part_tests.proofs.boards.eight_glances_read_all_objects.Given as goal

-- the book of the history that was just begun
abbrev pub ghosts-over_full_board : goal.ghosts-over_full_board
ghosts-over_full_board g a = record { book = a.blank.seen.book }
