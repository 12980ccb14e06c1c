use Rattle.command_arguments.proofs.parser.serving_parser.Goals as goal

pub returns : goal.returns
returns c =
    let site = c.site_option.ensures in
    let store = c.store_option.ensures in
    let layout = c.layout_option.ensures in
    let group = c.text_option.ensures in
    let plain = c.flag.ensures in
    let create = c.flag-2.ensures in
    let grow = c.flag-3.ensures in
    let wait = c.number_option.ensures in
    let log = c.text_option-2.ensures in
    let bare = c.bare_command.ensures in
    let with_site = c.with_option-command.ensures _ _ bare (site.rule, site.local) in
    let with_store = c.with_option-command-2.ensures _ _ with_site (store.rule, store.local) in
    let with_layout = c.with_option-command-3.ensures _ _ with_store (layout.rule, layout.local) in
    let with_group = c.with_option-command-4.ensures _ _ with_layout (group.rule, group.local) in
    let with_plain = c.with_option-command-5.ensures _ _ with_group (plain.rule, plain.local) in
    let with_create = c.with_option-command-6.ensures _ _ with_plain (create.rule, create.local) in
    let with_grow = c.with_option-command-7.ensures _ _ with_create (grow.rule, grow.local) in
    let with_wait = c.with_option-command-8.ensures _ _ with_grow (wait.rule, wait.local) in
    c.with_option.ensures _ _ with_wait (log.rule, log.local)
