use Rattle.smi_part_tests.proofs.boards.told.told_again_and_again.Given as goal

-- the book of the history that was just begun
abbrev pub ghosts-over_board : goal.ghosts-over_board
ghosts-over_board g a = record { book = a.blank.seen.book }
