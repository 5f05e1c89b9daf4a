use Rattle.smi_station_grants.proofs.grant_table.GrantTable.command_child.Goals as goal

pub returns-clause-grants : goal.returns-clause-grants
returns-clause-grants c =
    rw (
      c.link_after-new_link.ensures,
      c.mode_after-new_mode.ensures,
      c.link-link.ensures,
      c.mode-mode.ensures,
      c.requires.change,
    ) at c.put_child.ensures.grants
