mod Surrounded
