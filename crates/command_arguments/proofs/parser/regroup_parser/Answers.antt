use Rattle.command_arguments.proofs.parser.regroup_parser.Goals as goal

pub returns : goal.returns
returns c =
    let site = c.site_option.ensures in
    let store = c.store_option.ensures in
    let layout = c.layout_option.ensures in
    let group = c.needed_group.ensures in
    let with_site = c.with_option-command.ensures _ _ c.bare_command-command.ensures (site.rule, site.local) in
    let with_store = c.with_option-command-2.ensures _ _ with_site (store.rule, store.local) in
    let with_layout = c.with_option-command-3.ensures _ _ with_store (layout.rule, layout.local) in
    c.with_option.ensures _ _ with_layout (group.rule, group.local)
