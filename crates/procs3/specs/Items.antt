-- The items of arguments and results.
use Rattle.std.specs.Prelude.{List, [], ◌∷◌}
use Rattle.xdr3.specs.Item.{Item, Rest, called}
use Rattle.nfs3_types.specs.Items.{attributes_items, dir_op_items, handle_items, post_op_attr_items, wcc_items}
use Rattle.nfs3_types.specs.Mounts.{exports_items, mount_list_items}
use Rattle.nfs3_types.specs.Results.{items_by_status}
use Rattle.procs3.specs.Creation.{create_args_items, create_ok_items, mkdir_args_items, mknod_args_items, symlink_args_items}
use Rattle.procs3.specs.Directories.{link_args_items, link_wcc_items, lookup_ok_items, readdir_args_items, readdir_ok_items, readdirplus_args_items, readdirplus_ok_items, rename_args_items, rename_wcc_items}
use Rattle.procs3.specs.FileSystem.{fsinfo_ok_items, fsstat_ok_items, pathconf_ok_items}
use Rattle.procs3.specs.Files.{access_args_items, access_ok_items, commit_ok_items, file_range_items, read_ok_items, readlink_ok_items, setattr_args_items, write_args_items, write_ok_items}
use Rattle.procs3.specs.Mounts.{dirpath_items, mount_results_items}
use Rattle.procs3.specs.declared.values.args.Args.{Args}
use Rattle.procs3.specs.declared.values.args.Args.TheVariants as args
use Rattle.procs3.specs.declared.values.results.Results.{Results}
use Rattle.procs3.specs.declared.values.results.Results.TheVariants as results

abbrev pub args_items : Args → List Item
args_items args.Null = []
args_items (args.GetAttr x) = handle_items x
args_items (args.SetAttr x) = setattr_args_items x
args_items (args.Lookup x) = dir_op_items x
args_items (args.Access x) = access_args_items x
args_items (args.ReadLink x) = handle_items x
args_items (args.Read x) = file_range_items x
args_items (args.Write x) = write_args_items x
args_items (args.Create x) = create_args_items x
args_items (args.MkDir x) = mkdir_args_items x
args_items (args.SymLink x) = symlink_args_items x
args_items (args.MkNod x) = mknod_args_items x
args_items (args.Remove x) = dir_op_items x
args_items (args.RmDir x) = dir_op_items x
args_items (args.Rename x) = rename_args_items x
args_items (args.Link x) = link_args_items x
args_items (args.ReadDir x) = readdir_args_items x
args_items (args.ReadDirPlus x) = readdirplus_args_items x
args_items (args.FsStat x) = handle_items x
args_items (args.FsInfo x) = handle_items x
args_items (args.PathConf x) = handle_items x
args_items (args.Commit x) = file_range_items x
args_items args.MountNull = []
args_items (args.Mnt x) = dirpath_items x
args_items args.Dump = []
args_items (args.Umnt x) = dirpath_items x
args_items args.UmntAll = []
args_items args.Export = []
args_items (args.Raw bytes) = Rest (called "rest") bytes.now ∷ []

abbrev pub results_items : Results → List Item
results_items results.Null = []
results_items (results.GetAttr x) = items_by_status attributes_items (λ v. []) x
results_items (results.SetAttr x) = items_by_status wcc_items wcc_items x
results_items (results.Lookup x) = items_by_status lookup_ok_items post_op_attr_items x
results_items (results.Access x) = items_by_status access_ok_items post_op_attr_items x
results_items (results.ReadLink x) = items_by_status readlink_ok_items post_op_attr_items x
results_items (results.Read x) = items_by_status read_ok_items post_op_attr_items x
results_items (results.Write x) = items_by_status write_ok_items wcc_items x
results_items (results.Create x) = items_by_status create_ok_items wcc_items x
results_items (results.MkDir x) = items_by_status create_ok_items wcc_items x
results_items (results.SymLink x) = items_by_status create_ok_items wcc_items x
results_items (results.MkNod x) = items_by_status create_ok_items wcc_items x
results_items (results.Remove x) = items_by_status wcc_items wcc_items x
results_items (results.RmDir x) = items_by_status wcc_items wcc_items x
results_items (results.Rename x) = items_by_status rename_wcc_items rename_wcc_items x
results_items (results.Link x) = items_by_status link_wcc_items link_wcc_items x
results_items (results.ReadDir x) = items_by_status readdir_ok_items post_op_attr_items x
results_items (results.ReadDirPlus x) = items_by_status readdirplus_ok_items post_op_attr_items x
results_items (results.FsStat x) = items_by_status fsstat_ok_items post_op_attr_items x
results_items (results.FsInfo x) = items_by_status fsinfo_ok_items post_op_attr_items x
results_items (results.PathConf x) = items_by_status pathconf_ok_items post_op_attr_items x
results_items (results.Commit x) = items_by_status commit_ok_items wcc_items x
results_items results.MountNull = []
results_items (results.Mnt x) = mount_results_items x
results_items (results.Dump x) = mount_list_items x
results_items results.Umnt = []
results_items results.UmntAll = []
results_items (results.Export x) = exports_items x
results_items (results.Raw bytes) = Rest (called "rest") bytes.now ∷ []
