mod Follows
