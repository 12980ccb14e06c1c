use Rattle.command_arguments.proofs.parser.site_parser.Goals as goal

pub returns : goal.returns
returns c =
    let site = c.site_option.ensures in
    let store = c.store_option.ensures in
    let layout = c.layout_option.ensures in
    let bare = c.bare_command.ensures in
    let with_site = c.with_option-command.ensures _ _ bare (site.rule, site.local) in
    let with_store = c.with_option-command-2.ensures _ _ with_site (store.rule, store.local) in
    c.with_option.ensures _ _ with_store (layout.rule, layout.local)
