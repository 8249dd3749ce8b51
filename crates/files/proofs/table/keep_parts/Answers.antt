-- `files::table::keep_parts` meets its contract: since the file is a table, each of its lists is found.
use Rattle.std.proofs.Common.{rules}
use Rattle.files.proofs.TableStages.{lists_found}
use Rattle.files.proofs.table.keep_parts.Goals as goal

pub keep_list-requires : goal.keep_list-requires
keep_list-requires c =
    let (end, is) = c.requires in
    rw (c.step_columns.ensures) ((lists_found _ _ end is).0, search rules)

pub keep_list-requires-2 : goal.keep_list-requires-2
keep_list-requires-2 c =
    let (end, is) = c.requires in
    rw (c.push_columns.ensures) ((lists_found _ _ end is).1, search rules)

pub keep_list-requires-3 : goal.keep_list-requires-3
keep_list-requires-3 c =
    let (end, is) = c.requires in
    rw (c.pop_columns.ensures) ((lists_found _ _ end is).2, search rules)

pub keep_list-requires-4 : goal.keep_list-requires-4
keep_list-requires-4 c =
    let (end, is) = c.requires in
    rw (c.error_columns.ensures) ((lists_found _ _ end is).3, search rules)
